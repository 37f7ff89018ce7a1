use Rattle.std.proofs.Common.{◌≡◌, ℕ, ◌<◌, ◌≤◌, length}
use Rattle.std.specs.Prelude.{slice_index_or}
use Rattle.tl_definitions.specs.Readings.{reading_after}
use Rattle.tl_midway.specs.Reading.{shown_reading}
use Rattle.tl_midway.specs.declared.reading.Reading.{Reading}
use Rattle.tl_midway.proofs.readings.pass_all.Given as goal

-- the first ones are those of the next beat, and the others are as they were
abbrev pub invariant-loop-place : goal.invariant-loop-place
invariant-loop-place l = record {
  count : length l.readings.items ≡ length l.initial.readings.items;
  done : (k : ℕ) (d : Reading) → k < l.place
      → shown_reading (slice_index_or l.readings.items k d) ≡ reading_after l.link l.beat (shown_reading (slice_index_or l.initial.readings.items k d));
  rest : (k : ℕ) (d : Reading) → l.place ≤ k → slice_index_or l.readings.items k d ≡ slice_index_or l.initial.readings.items k d;
}
