use Rattle.std.proofs.Common.{◌≡◌}
use Rattle.tl_topology.specs.Regions.{overlapping}
use Rattle.tl_topology.proofs.region.RegionMap.overlapping.Given as goal

abbrev pub invariant-loop-other : goal.invariant-loop-other
invariant-loop-other l =
    (goal.iterator-loop-other).can_next l.other-iterator ×
    (goal.iterator-loop-other).is_finite l.other-iterator ×
    (overlapping l.number l.region l.other-iterator ≡ overlapping l.number l.region l.self)
