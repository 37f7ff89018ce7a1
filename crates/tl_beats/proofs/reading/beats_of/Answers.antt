use Rattle.std.proofs.Common.{◌≡◌, ◌+◌, Ok, rules, arith, ap, sym, ◌∙◌, length, [], ℕ}
use Rattle.std.proofs.lemmas.Result.{err_from_is_err_and}
use Rattle.tl_text.specs.Words.{lines_of}
use Rattle.tl_text.specs.Readings.{Fails}
use Rattle.tl_text.proofs.Cuts.{behind_line, behind_on}
use Rattle.tl_beats.specs.Faults.{is_memory}
use Rattle.tl_beats.specs.Reading.{next_at, beats_from}
use Rattle.tl_beats.specs.Text.{beat_text}
use Rattle.tl_beats.proofs.FrontLines.{front_goes_on, front_fails, front_grows, counts_on, counts_fault, fault_before}
use Rattle.tl_beats.proofs.Growing.{grown}
use Rattle.tl_beats.proofs.Lines.{no_line, ends, goes_on, fails}
use Rattle.tl_beats.proofs.reading.beats_of.Goals as goal

pub returns-in_err-placed-clause-exact : goal.returns-in_err-placed-clause-exact
returns-in_err-placed-clause-exact c =
    let n = c.len.result + 2 in
    let before = c.loop-front.beats.items in
    let lines = lines_of c.loop-front.rest.now in
    let counted : n ≡ length before + 2 = omega (arith, c.len.ensures) in
    let at = rw c.deref.ensures.value at c.in_err-placed.ensures.exact in
    let one = front_fails c.args.first c.args.last n before c.loop-front.rest.now c.in-Some.after.now c.in-Some.front.beat c.in_err-placed.field-0.0 c.in-Some.ensures.line.formed c.in-Some.ensures.spelled at in
    let here = counts_fault c.args.first c.args.last n before lines c.in_err-placed.field-0.0 counted one in
    let p = err_from_is_err_and c.from_residual.result c.from_residual.ensures.1 in
    rw (p.1, p.2) (fault_before c.in_err-placed.field-0.0 (beats_from c.args.first c.args.last (length before + 2) before lines) (beats_from c.args.first c.args.last 2 [] (lines_of c.args.bytes.now)) c.loop-front.invariant.read here)

pub later_beats-requires-clause-kept : goal.later_beats-requires-clause-kept
later_beats-requires-clause-kept c =
    let at = rw c.deref.ensures.value at c.in_ok-placed.ensures.exact in
    rw c.in_ok-push.ensures.items (front_grows c.args.first c.args.last (c.len.result + 2) c.loop-front.beats.items c.in-Some.front.beat c.in_ok-placed.field-0 c.loop-front.invariant.kept c.in-Some.ensures.line.formed at c.in_ok-placed.ensures.same)

pub returns-in_err-rest-clause-exact : goal.returns-in_err-rest-clause-exact
returns-in_err-rest-clause-exact c =
    let n = c.len.result + 2 in
    let before = c.loop-front.beats.items in
    let lines = lines_of c.loop-front.rest.now in
    let then = beats_from c.args.first c.args.last 2 [] (lines_of c.args.bytes.now) in
    let counted : n ≡ length before + 2 = omega (arith, c.len.ensures) in
    let at = rw c.deref.ensures.value at c.in_ok-placed.ensures.exact in
    let one = front_goes_on c.args.first c.args.last n before c.loop-front.rest.now c.in-Some.after.now c.in-Some.front.beat c.in_ok-placed.field-0 c.in-Some.ensures.line.formed c.in-Some.ensures.spelled at in
    let up = counts_on c.args.first c.args.last n before c.in_ok-placed.field-0 lines (lines_of c.in-Some.after.now) counted one in
    let burst = rw c.in_ok-push.ensures.items at c.in_err-rest.ensures.fault in
    let p = err_from_is_err_and c.from_residual-in_err-rest.result c.from_residual-in_err-rest.ensures.1 in
    rw (p.1, p.2) (fault_before c.in_err-rest.field-0.0 _ then (sym up ∙ c.loop-front.invariant.read) burst)

pub loop-front-preserved-in-Some : goal.loop-front-preserved-in-Some
loop-front-preserved-in-Some c =
    let n = c.len.result + 2 in
    let before = c.loop-front.beats.items in
    let lines = lines_of c.loop-front.rest.now in
    let counted : n ≡ length before + 2 = omega (arith, c.len.ensures) in
    let at = rw c.deref.ensures.value at c.in_ok-placed.ensures.exact in
    let one = front_goes_on c.args.first c.args.last n before c.loop-front.rest.now c.in-Some.after.now c.in-Some.front.beat c.in_ok-placed.field-0 c.in-Some.ensures.line.formed c.in-Some.ensures.spelled at in
    let up = counts_on c.args.first c.args.last n before c.in_ok-placed.field-0 lines (lines_of c.in-Some.after.now) counted one in
    let burst = rw c.in_ok-push.ensures.items at c.in_ok-rest.ensures.read in
    let line = behind_line c.args.bytes.now c.loop-front.rest.now (beat_text c.in-Some.front.beat) c.in-Some.after.now c.loop-front.invariant.behind c.in-Some.ensures.spelled in
    record {
      read = burst ∙ sym up ∙ c.loop-front.invariant.read;
      kept = c.in_ok-rest.ensures.kept;
      behind = behind_on c.args.bytes.now c.in-Some.after.now c.in_ok-rest.rest.now line c.in_ok-rest.ensures.behind;
    }

pub returns-in_default-line-clause-exact : goal.returns-in_default-line-clause-exact
returns-in_default-line-clause-exact c here =
    let counted : length c.loop-front.beats.items + 2 ≡ c.len.result + 2 = omega (arith, c.len.ensures) in
    sym c.loop-front.invariant.read ∙ ap (λ (n : ℕ). beats_from c.args.first c.args.last n c.loop-front.beats.items (lines_of c.loop-front.rest.now)) counted
    ∙ no_line c.args.first c.args.last (c.len.result + 2) c.loop-front.beats.items (lines_of c.loop-front.rest.now) (search rules)

pub returns-then-eq-clause-exact : goal.returns-then-eq-clause-exact
returns-then-eq-clause-exact c = sym c.loop-front.invariant.read
    ∙ ends c.args.first c.args.last (length c.loop-front.beats.items + 2) c.loop-front.beats.items (lines_of c.loop-front.rest.now) c.in-Some-line.next.now (lines_of c.in-Some-line.after.now) (search rules) (search rules)

pub returns-then-eq-clause-behind : goal.returns-then-eq-clause-behind
returns-then-eq-clause-behind c = behind_line c.args.bytes.now c.loop-front.rest.now c.in-Some-line.next.now c.in-Some-line.after.now c.loop-front.invariant.behind (search rules)

pub returns-in_err-next_of-clause-exact : goal.returns-in_err-next_of-clause-exact
returns-in_err-next_of-clause-exact c =
    let n = c.len.result + 2 in
    let before = c.loop-front.beats.items in
    let lines = lines_of c.loop-front.rest.now in
    let counted : n ≡ length before + 2 = omega (arith, c.len.ensures) in
    let at : Fails is_memory c.in_err-next_of.field-0.0 (next_at c.args.first c.args.last n before c.in-Some-line.next.now) = rw c.deref-in-loop-front.ensures.value at c.in_err-next_of.ensures.exact in
    let one = fails c.args.first c.args.last n before lines c.in-Some-line.next.now (lines_of c.in-Some-line.after.now) c.in_err-next_of.field-0.0 (search rules) (search rules) at in
    let here = counts_fault c.args.first c.args.last n before lines c.in_err-next_of.field-0.0 counted one in
    let p = err_from_is_err_and c.from_residual-in_err-next_of.result c.from_residual-in_err-next_of.ensures.1 in
    rw (p.1, p.2, ← c.loop-front.invariant.read) here

pub loop-front-preserved : goal.loop-front-preserved
loop-front-preserved c =
    let n = c.len.result + 2 in
    let before = c.loop-front.beats.items in
    let lines = lines_of c.loop-front.rest.now in
    let counted : n ≡ length before + 2 = omega (arith, c.len.ensures) in
    let good : next_at c.args.first c.args.last n before c.in-Some-line.next.now ≡ Ok c.in_ok-next_of.field-0 = rw c.deref-in-loop-front.ensures.value at c.in_ok-next_of.ensures.exact in
    let one = goes_on c.args.first c.args.last n before lines c.in-Some-line.next.now (lines_of c.in-Some-line.after.now) c.in_ok-next_of.field-0 (search rules) (search rules) good in
    let up = counts_on c.args.first c.args.last n before c.in_ok-next_of.field-0 lines (lines_of c.in-Some-line.after.now) counted one in
    rw c.in_ok-push-2.ensures.items (record {
      read = sym up ∙ c.loop-front.invariant.read;
      kept = grown c.args.first c.args.last n before c.in-Some-line.next.now c.in_ok-next_of.field-0 c.loop-front.invariant.kept good c.in_ok-next_of.ensures.formed;
      behind = behind_line c.args.bytes.now c.loop-front.rest.now c.in-Some-line.next.now c.in-Some-line.after.now c.loop-front.invariant.behind (search rules);
    })
