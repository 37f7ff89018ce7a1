use Rattle.std.proofs.Common.{◌≡◌, ◌-◌, length, take, drop, arith, get_or}
use Rattle.std.proofs.lemmas.Grind.{common_steps}
use Rattle.std.proofs.lemmas.List.{take_all}
use Rattle.tl_beats.proofs.WordDigits.{found}
use Rattle.tl_beats.proofs.front_words.many_decimal_front.Goals.{then-end-gt1, else-end-gt1}
use Rattle.tl_beats.proofs.front_words.many_decimal_front.Goals as goal

pub returns-in-len1-up : goal.returns-in-len1-up
returns-in-len1-up c =
    let led : get_or c.args.text.now 0 0 ≡ 48 → c.read_digits-end.result.0 ≡ 1 = elim c.if-end-gt1.branch [
      | then-end-gt1 w ↦ λ h. grind (arith, common_steps, c.if-text-eq48.false, w.value-is, h)
      | else-end-gt1 w ↦ λ h. omega (arith, w.if-end-gt1.false, c.if-end-eq0.false)
    ] in
    found c.read_digits-end.result.0 c.read_digits-end.result.1 c.args.stop c.args.text.now (take (length c.args.text.now - c.read_digits-end.result.0) (drop c.read_digits-end.result.0 c.args.text.now))
    (omega (arith, c.read_digits-end.ensures.end)) (omega (arith, c.if-end-eq0.false)) c.if-end-gt-MOST_DIGITS.false led (grind (arith, common_steps, c.read_digits-end.ensures.value)) (grind (arith, common_steps, take_all)) c.in-len1-up.len_at_least c.if-first-stop.true
