use Rattle.std.proofs.Common.{◌≡◌, take}
use Rattle.std.specs.List.{All}
use Rattle.tl_topology.specs.Topology.{IsSound}
use Rattle.tl_definitions.specs.Managers.{declared_links}
use Rattle.tl_check.proofs.walked.links_of.Given as goal

-- the first links, each sound
abbrev pub invariant-loop-number : goal.invariant-loop-number
invariant-loop-number l = record {
  exact : l.links.items ≡ take l.number (declared_links l.topo);
  sound : All IsSound l.links.items;
}
