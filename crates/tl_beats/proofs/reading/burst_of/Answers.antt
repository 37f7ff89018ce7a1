use Rattle.std.proofs.Common.{◌≡◌, ◌+◌, arith, refl, sym, length, ◌∙◌}
use Rattle.std.proofs.lemmas.Result.{err_from_is_err_and}
use Rattle.tl_text.specs.Words.{lines_of}
use Rattle.tl_text.proofs.Cuts.{behind_all, behind_line}
use Rattle.tl_beats.specs.Reading.{beats_from}
use Rattle.tl_beats.specs.Text.{beat_text}
use Rattle.tl_beats.proofs.FrontLines.{front_goes_on, front_fails, front_grows, counts_on, counts_fault, fault_before}
use Rattle.tl_beats.proofs.reading.burst_of.Goals as goal

pub loop-beat-init : goal.loop-beat-init
loop-beat-init c = record {
  read = refl;
  kept = c.requires.kept;
  behind = behind_all c.args.text.now;
}

pub returns-in_err-placed-clause-fault : goal.returns-in_err-placed-clause-fault
returns-in_err-placed-clause-fault c =
    let n = c.len.result + 2 in
    let before = c.loop-beat.beats.items in
    let lines = lines_of c.loop-beat.rest.now in
    let counted : n ≡ length before + 2 = omega (arith, c.len.ensures) in
    let at = rw c.deref.ensures.value at c.in_err-placed.ensures.exact in
    let one = front_fails c.args.first c.args.last n before c.loop-beat.rest.now c.in-Some.after.now c.in-Some.beat c.in_err-placed.field-0.0 c.in-Some.ensures.formed c.in-Some.ensures.spelled at in
    let here = counts_fault c.args.first c.args.last n before lines c.in_err-placed.field-0.0 counted one in
    let p = err_from_is_err_and c.from_residual.result c.from_residual.ensures.1 in
    rw (p.1, p.2) (fault_before c.in_err-placed.field-0.0 (beats_from c.args.first c.args.last (length before + 2) before lines) (beats_from c.args.first c.args.last (length c.args.beats.now.items + 2) c.args.beats.now.items (lines_of c.args.text.now)) c.loop-beat.invariant.read here)

pub loop-beat-preserved : goal.loop-beat-preserved
loop-beat-preserved c =
    let n = c.len.result + 2 in
    let before = c.loop-beat.beats.items in
    let counted : n ≡ length before + 2 = omega (arith, c.len.ensures) in
    let at = rw c.deref.ensures.value at c.in_ok-placed.ensures.exact in
    let one = front_goes_on c.args.first c.args.last n before c.loop-beat.rest.now c.in-Some.after.now c.in-Some.beat c.in_ok-placed.field-0 c.in-Some.ensures.formed c.in-Some.ensures.spelled at in
    let up = counts_on c.args.first c.args.last n before c.in_ok-placed.field-0 (lines_of c.loop-beat.rest.now) (lines_of c.in-Some.after.now) counted one in
    rw c.in_ok-push.ensures.items (record {
      read = sym up ∙ c.loop-beat.invariant.read;
      kept = front_grows c.args.first c.args.last n before c.in-Some.beat c.in_ok-placed.field-0 c.loop-beat.invariant.kept c.in-Some.ensures.formed at c.in_ok-placed.ensures.same;
      behind = behind_line c.args.text.now c.loop-beat.rest.now (beat_text c.in-Some.beat) c.in-Some.after.now c.loop-beat.invariant.behind c.in-Some.ensures.spelled;
    })
