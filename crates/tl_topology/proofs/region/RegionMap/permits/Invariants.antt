use Rattle.std.proofs.Common.{◌≡◌}
use Rattle.std.specs.List.{list_any}
use Rattle.tl_topology.specs.Regions.{permits_in, areas_of}
use Rattle.tl_topology.proofs.region.RegionMap.permits.Given as goal

abbrev pub invariant-loop-region : goal.invariant-loop-region
invariant-loop-region l =
    (goal.iterator-loop-region).can_next l.region-iterator ×
    (goal.iterator-loop-region).is_finite l.region-iterator ×
    (list_any (permits_in l.op l.low l.high) l.region-iterator ≡ list_any (permits_in l.op l.low l.high) (areas_of l.self))
