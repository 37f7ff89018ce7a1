use Rattle.std.proofs.Common.{◌≤◌, ◌⊎◌}
use Rattle.std.specs.List.{Contains}
use Rattle.tl_definitions.specs.Positions.{Recorded}
use Rattle.tl_capture.specs.Present.{IsPresent}
use Rattle.tl_stream.specs.Courses.{Loses}
use Rattle.tl_stream.proofs.stream.drop_ended.Given as goal

-- what is gone so far
abbrev pub invariant-loop-link : goal.invariant-loop-link
invariant-loop-link l = record {
  loses : Loses l.links l.fn.waiting l.waiting;
  ended : (f : Recorded) → Contains l.fn.waiting f → Contains l.waiting f ⊎ (f.last ≤ l.cycle);
  present : IsPresent l.fn.waiting → IsPresent l.waiting;
}
