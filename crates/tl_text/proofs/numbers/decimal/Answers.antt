use Rattle.std.proofs.Common.{arith}
use Rattle.tl_text.proofs.Numerals.{reads_spelled, reads_every}
use Rattle.tl_text.proofs.numbers.decimal.Goals as goal

pub returns-clause-spelled : goal.returns-clause-spelled
returns-clause-spelled c = reads_spelled 10 c.args.most c.args.word.now _ (omega arith) (omega arith) c.number.ensures.exact

pub returns-clause-every : goal.returns-clause-every
returns-clause-every c n le is = reads_every 10 c.args.most c.args.word.now _ n (omega arith) (omega arith) (omega arith) c.number.ensures.exact le is
