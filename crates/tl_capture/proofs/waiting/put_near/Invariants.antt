use Rattle.std.proofs.Common.{length}
use Rattle.std.specs.List.{AllWithin}
use Rattle.tl_capture.specs.Cursors.{here}
use Rattle.tl_definitions.specs.Positions.{IsBefore}
use Rattle.tl_capture.specs.Waiting.{under_top}
use Rattle.tl_capture.proofs.StackLemmas.{AreShifted}
use Rattle.tl_capture.proofs.waiting.put_near.Given as goal

-- those above the free place have moved up, and lie before the cursor
abbrev pub invariant-loop-place : goal.invariant-loop-place
invariant-loop-place l = record {
  shifted : AreShifted l.fn.cursors l.cursors l.place;
  passed : AllWithin (λ c. IsBefore (here c) (here l.cursor)) (under_top l.fn.cursors) l.place (length (under_top l.fn.cursors));
}

abbrev pub decreases-loop-place : goal.decreases-loop-place
decreases-loop-place l = l.place
