use Rattle.std.proofs.Common.{◌≡◌, arith, get_or}
use Rattle.std.proofs.lemmas.Grind.{common_steps}
use Rattle.tl_beats.proofs.WordDigits.{found_within, word_reads}
use Rattle.tl_beats.proofs.front_words.word_decimal_front.Goals.{then-end-gt1, else-end-gt1}
use Rattle.tl_beats.proofs.front_words.word_decimal_front.Goals as goal

pub returns : goal.returns
returns c =
    let end = c.in_ok-end.end in
    let text = c.args.text.now in
    let led : get_or text 0 0 ≡ 48 → end ≡ 1 = elim c.if-end-gt1.branch [
      | then-end-gt1 w ↦ λ h. grind (arith, common_steps, c.if-text-eq48.false, w.value-is, h)
      | else-end-gt1 w ↦ λ h. omega (arith, w.if-end-gt1.false, c.if-end-eq0.false)
    ] in
    let word = word_reads c.word_at.result end c.in_ok-end.value text c.if-text-lt-WORD.false (λ i. omega (arith, c.type_inv.text i)) c.word_at.ensures.number c.in_ok-end.ensures.read in
    found_within 8 end c.in_ok-end.value c.args.stop text word.0 (omega (arith, c.if-end-eq0.false)) c.in_ok-end.ensures.few (omega arith) c.if-text-lt-WORD.false led word.1 c.if-text-end.false
