use Rattle.std.proofs.Common.{ℕ, ◌<◌}
use Rattle.std.specs.Prelude.{slice_index_or}
use Rattle.tl_same.proofs.same.are_same.Given as goal

-- the items so far show the same
abbrev pub invariant-loop-n : goal.invariant-loop-n
invariant-loop-n g l = (k : ℕ) (d : g.row.T.Denot) → k < l.n → g.T.Same.same (slice_index_or l.here k d) (slice_index_or l.there k d)
