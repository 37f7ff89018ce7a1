use Rattle.std.proofs.Common.{◌≡◌, ℕ, ◌<◌, ◌≤◌, length}
use Rattle.std.specs.Prelude.{slice_index_or}
use Rattle.tl_topology.specs.Regions.{areas_of}
use Rattle.tl_midway.specs.Counted.{one_beat}
use Rattle.tl_midway.specs.State.{WhereServed}
use Rattle.tl_midway.specs.declared.counts.RuleCount.{RuleCount}
use Rattle.tl_midway.proofs.counts.count_unjudged.Given as goal

-- the beat was counted for the first ones, and the others are as they were
abbrev pub invariant-loop-place : goal.invariant-loop-place
invariant-loop-place l = record {
  count : length l.counts.items ≡ length l.initial.counts.items;
  done : WhereServed l.state l.at.link l.link (areas_of l.regions) (λ m start before. (k : ℕ) (d : RuleCount) → k < l.place
      → slice_index_or l.counts.items k d ≡ one_beat m start before l.at (slice_index_or l.initial.counts.items k d));
  rest : (k : ℕ) (d : RuleCount) → l.place ≤ k → slice_index_or l.counts.items k d ≡ slice_index_or l.initial.counts.items k d;
}
