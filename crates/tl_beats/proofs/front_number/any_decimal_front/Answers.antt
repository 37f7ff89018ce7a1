use Rattle.std.proofs.Common.{arith, rules}
use Rattle.tl_beats.proofs.Fronts.{goes_on}
use Rattle.tl_beats.proofs.front_number.any_decimal_front.Goals as goal

pub loop-rest-preserved : goal.loop-rest-preserved
loop-rest-preserved c = rw c.from.ensures (record {
  spelled = goes_on 10 c.loop-rest.value c.decimal_digit-digit.result c.args.text.now c.loop-rest.rest.now (omega arith) (omega (arith, c.if-digit-gt9.false)) (search rules) (c.decimal_digit-digit.ensures c.if-digit-gt9.false) (search rules) (omega (arith, c.if-digit-gt9.false)) c.loop-rest.invariant.spelled;
  some = omega (arith, c.loop-rest.invariant.some);
})
