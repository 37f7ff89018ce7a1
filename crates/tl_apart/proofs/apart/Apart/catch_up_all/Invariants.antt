use Rattle.std.proofs.Common.{List}
use Rattle.tl_topology.specs.Topology.{Topology}
use Rattle.tl_definitions.specs.Positions.{Recorded}
use Rattle.tl_apart.specs.Apart.{HasApart}
use Rattle.tl_apart.proofs.apart.Apart.catch_up_all.Given as goal

abbrev pub invariant-loop-manager : goal.invariant-loop-manager
invariant-loop-manager l = (topo : Topology) (fs : List Recorded) → HasApart topo fs l.fn.self → HasApart topo fs l.self
