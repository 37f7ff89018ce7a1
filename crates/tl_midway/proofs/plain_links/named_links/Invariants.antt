use Rattle.std.proofs.Common.{◌≡◌, take}
use Rattle.tl_topology.specs.Regions.{areas_of}
use Rattle.tl_definitions.specs.Captures.{manager_beats}
use Rattle.tl_definitions.specs.Managers.{manager_at}
use Rattle.tl_midway.specs.Midway.{beginning_of}
use Rattle.tl_midway.specs.declared.midway.Midway.{Midway}
use Rattle.tl_midway.specs.Named.{AllBegin}
use Rattle.tl_midway.proofs.NamedRows.{printed_each}
use Rattle.tl_midway.proofs.plain_links.named_links.Given as goal

-- the rows are those of the first links, where all begin at heads
abbrev pub invariant-loop-number : goal.invariant-loop-number
invariant-loop-number l = (law : Midway) → AllBegin (beginning_of law (manager_at l.topo l.manager (areas_of l.regions))) l.links
    → l.rows.items ≡ printed_each (manager_at l.topo l.manager (areas_of l.regions)) (beginning_of law (manager_at l.topo l.manager (areas_of l.regions))) (take l.number-index l.links) (manager_beats l.topo l.present l.manager)
