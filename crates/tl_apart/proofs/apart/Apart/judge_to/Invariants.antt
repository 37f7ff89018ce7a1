use Rattle.std.proofs.Common.{ℕ, ◌<◌, List, length}
use Rattle.tl_topology.specs.Topology.{Topology}
use Rattle.tl_definitions.specs.Events.{Event}
use Rattle.tl_definitions.specs.Positions.{Recorded}
use Rattle.tl_apart.specs.Apart.{total, GoesOn, IsApart}
use Rattle.tl_apart.proofs.apart.Apart.judge_to.Given as goal

abbrev pub invariant-loop-link : goal.invariant-loop-link
invariant-loop-link l = (topo : Topology) (fs : List Recorded) (judged : ℕ → List Event) → IsApart topo fs judged l.fn.self → l.manager < length topo.managers
    → (later : ℕ → List Event) × GoesOn topo fs l.manager l.until judged later l.fn.self l.self

abbrev pub decreases-loop-link : goal.decreases-loop-link
decreases-loop-link l = total l.self.feeds.items
