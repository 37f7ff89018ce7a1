use Rattle.std.proofs.Common.{◌+◌, ◌*◌, ◌<◌, arith, sym}
use Rattle.std.proofs.lemmas.Grind.{common_steps}
use Rattle.tl_text.proofs.Numerals.{not_spelled, one_more, too_large, ends_at}
use Rattle.tl_text.proofs.numbers.long_number.Goals as goal

pub returns-in_err-digit-clause-exact : goal.returns-in_err-digit-clause-exact
returns-in_err-digit-clause-exact c = grind (arith, common_steps, not_spelled)

pub returns-in_err-checked_mul-clause-exact : goal.returns-in_err-checked_mul-clause-exact
returns-in_err-checked_mul-clause-exact c =
    let more = one_more c.args.base c.loop-byte.value c.in_ok-digit.digit c.loop-byte.byte-index c.args.word.now c.loop-byte-test.true (sym c.in_ok-digit.ensures) c.loop-byte.invariant in
    let wide : c.args.most < c.loop-byte.value * c.args.base + c.in_ok-digit.digit = omega (arith, c.in_err-checked_mul.ensures) in
    let none = too_large c.args.base c.args.most _ c.args.word.now _ c.requires.low wide more in
    grind (arith, common_steps, none)

pub returns-in_err-value-clause-exact : goal.returns-in_err-value-clause-exact
returns-in_err-value-clause-exact c =
    let more = one_more c.args.base c.loop-byte.value c.in_ok-digit.digit c.loop-byte.byte-index c.args.word.now c.loop-byte-test.true (sym c.in_ok-digit.ensures) c.loop-byte.invariant in
    let wide : c.args.most < c.loop-byte.value * c.args.base + c.in_ok-digit.digit = omega (arith, c.in_err-value.ensures, c.in_ok-checked_mul.ensures) in
    let none = too_large c.args.base c.args.most _ c.args.word.now _ c.requires.low wide more in
    grind (arith, common_steps, none)

pub loop-byte-preserved : goal.loop-byte-preserved
loop-byte-preserved c = grind (arith, common_steps, one_more)

pub returns-clause-exact : goal.returns-clause-exact
returns-clause-exact c = grind (arith, common_steps, ends_at)
