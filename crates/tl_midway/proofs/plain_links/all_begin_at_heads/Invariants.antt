use Rattle.std.proofs.Common.{ℕ, List, take}
use Rattle.tl_topology.specs.Regions.{Area}
use Rattle.tl_definitions.specs.Managers.{manager_at}
use Rattle.tl_midway.specs.Midway.{beginning_of}
use Rattle.tl_midway.specs.Named.{AllBegin}
use Rattle.tl_midway.proofs.plain_links.all_begin_at_heads.Given as goal

-- so of the first of them
abbrev pub invariant-loop-number : goal.invariant-loop-number
invariant-loop-number l = (manager : ℕ) (areas : List Area) → AllBegin (beginning_of l.law (manager_at l.topo manager areas)) (take l.number-index l.links)
