use Rattle.std.proofs.Common.{arith}
use Rattle.tl_beats.proofs.Fronts.{two_digits}
use Rattle.tl_beats.proofs.front_number.short_decimal_front.Goals as goal

pub returns-else-ones-gt9-2 : goal.returns-else-ones-gt9-2
returns-else-ones-gt9-2 c = rw (c.from-in-len3-up.ensures, c.from-in-len3-up-2.ensures) (two_digits 10 c.decimal_digit-tens.result c.decimal_digit-ones-in-len3-up.result c.args.stop c.args.text.now (omega arith) (omega (arith, c.if-ones-gt9-2.false)) c.in-len3-up.len_at_least (c.decimal_digit-tens.ensures c.if-tens-gt9.false) (c.decimal_digit-ones-in-len3-up.ensures c.if-ones-gt9-2.false) c.if-end-stop-2.true (omega (arith, c.if-tens-eq0.false))
    (omega (arith, c.if-tens-gt9.false, c.if-ones-gt9-2.false)))
