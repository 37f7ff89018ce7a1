use Rattle.std.proofs.Common.{◌≡◌, arith, rules, get_or}
use Rattle.tl_beats.proofs.Fronts.{letter_glyph, two_digits}
use Rattle.tl_beats.proofs.front_number.mask_front.Goals as goal

pub returns-in-102 : goal.returns-in-102
returns-in-102 c =
    let first : get_or c.args.text.now 0 0 ≡ 102 = search rules in
    let second : get_or c.args.text.now 1 0 ≡ 102 = search rules in
    two_digits 16 15 15 32 c.args.text.now (omega arith) (omega arith) c.in-102.len_at_least (letter_glyph 16 15 (get_or c.args.text.now 0 0) (omega arith) (omega arith) (omega (arith, first)))
    (letter_glyph 16 15 (get_or c.args.text.now 1 0) (omega arith) (omega arith) (omega (arith, second))) (search rules) (omega arith) (omega arith)
