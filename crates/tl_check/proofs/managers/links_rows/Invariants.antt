use Rattle.std.proofs.Common.{◌≡◌, take}
use Rattle.tl_topology.specs.Regions.{areas_of}
use Rattle.tl_definitions.specs.Managers.{manager_at}
use Rattle.tl_check.specs.Apart.{rows_of_links}
use Rattle.tl_check.proofs.managers.links_rows.Given as goal

abbrev pub invariant-loop-link : goal.invariant-loop-link
invariant-loop-link l = l.rows.items ≡ rows_of_links (manager_at l.topo l.manager (areas_of l.regions)) l.present (take l.link-index l.links)
