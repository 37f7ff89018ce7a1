use Rattle.std.proofs.Common.{◌∷◌, refl, sym, ◌∙◌, arith}
use Rattle.std.specs.List.Sorted.{IsPermutation}
use Rattle.std.specs.Prelude.{slice_set}
use Rattle.tl_capture.specs.Cursors.{here}
use Rattle.tl_capture.specs.Waiting.{under_top, AreStacked}
use Rattle.tl_capture.proofs.TurnLemmas.{is_before}
use Rattle.tl_capture.proofs.StackLemmas.{near_placed, lowest_placed, near_shifted}
use Rattle.tl_capture.proofs.waiting.put_near.Goals as goal

placed : (c : goal.Then-lies_before) → IsPermutation (c.args.cursor ∷ under_top c.args.cursors.now) (slice_set c.loop-place.cursors c.loop-place.place c.args.cursor) × AreStacked (slice_set c.loop-place.cursors c.loop-place.place c.args.cursor)
placed c = near_placed c.args.cursor c.index-cursors-place.result c.args.cursors.now c.loop-place.cursors (slice_set c.loop-place.cursors c.loop-place.place c.args.cursor) c.loop-place.place
    c.loop-place.invariant.shifted c.loop-place.invariant.passed c.requires.stacked c.loop-place-test.true c.index-cursors-place.is
    (is_before (here c.args.cursor) (here c.index-cursors-place.result) (sym c.lies_before.ensures ∙ c.if-lies_before.true)) refl

pub returns-then-lies_before-clause-moves : goal.returns-then-lies_before-clause-moves
returns-then-lies_before-clause-moves c = (placed c).0

pub returns-then-lies_before-clause-stacked : goal.returns-then-lies_before-clause-stacked
returns-then-lies_before-clause-stacked c = (placed c).1

pub loop-place-preserved : goal.loop-place-preserved
loop-place-preserved c =
    let next = near_shifted c.args.cursor c.index-cursors-place.result c.args.cursors.now c.loop-place.cursors (slice_set c.loop-place.cursors c.loop-place.place c.index-cursors-place.result) c.loop-place.place
    c.loop-place.invariant.shifted c.loop-place.invariant.passed c.requires.untied c.loop-place-test.true c.index-cursors-place.is (sym c.lies_before.ensures ∙ c.if-lies_before.false) refl in
    record { shifted = next.0; passed = next.1 }

lowest : (c : goal.After-loop-place) → IsPermutation (c.args.cursor ∷ under_top c.args.cursors.now) (slice_set c.loop-place.cursors 0 c.args.cursor) × AreStacked (slice_set c.loop-place.cursors 0 c.args.cursor)
lowest c = lowest_placed c.args.cursor c.args.cursor c.args.cursors.now c.loop-place.cursors (slice_set c.loop-place.cursors 0 c.args.cursor) c.loop-place.place
    c.loop-place.invariant.shifted c.loop-place.invariant.passed c.requires.stacked (omega (arith, c.loop-place-test.false)) refl

pub returns-clause-moves : goal.returns-clause-moves
returns-clause-moves c = (lowest c).0

pub returns-clause-stacked : goal.returns-clause-stacked
returns-clause-stacked c = (lowest c).1
