use Rattle.std.proofs.Common.{◌≡◌, ℕ, ◌<◌}
use Rattle.tl_topology.specs.Regions.{area_at}
use Rattle.tl_board.proofs.current.are_regions.Given as goal

-- those below the number are the same
abbrev pub invariant-loop-number : goal.invariant-loop-number
invariant-loop-number l = (k : ℕ) → k < l.number → area_at k l.own ≡ area_at k l.other
