use Rattle.std.proofs.Common.{take}
use Rattle.tl_topology.specs.Regions.{areas_of}
use Rattle.tl_definitions.specs.Managers.{manager_at}
use Rattle.tl_check.specs.Jobs.{GoesOn}
use Rattle.tl_check.specs.LinkByLink.{one_after_other}
use Rattle.tl_board.proofs.apart.go_through.Given as goal

-- the state went on after the first lists
abbrev pub invariant-loop-beats : goal.invariant-loop-beats
invariant-loop-beats l = GoesOn (manager_at l.topo l.manager (areas_of l.regions)) l.fn.state (one_after_other (take l.beats-index l.lists)) l.state l.rows.items
