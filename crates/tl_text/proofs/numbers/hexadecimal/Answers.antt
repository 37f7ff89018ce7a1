use Rattle.std.proofs.Common.{◌-◌, ◌^◌, arith}
use Rattle.tl_text.proofs.Numerals.{reads_spelled, reads_every}
use Rattle.tl_text.proofs.numbers.hexadecimal.Goals as goal

pub returns-clause-spelled : goal.returns-clause-spelled
returns-clause-spelled c = reads_spelled 16 (2 ^ 64 - 1) c.args.word.now _ (omega arith) (omega arith) c.number.ensures.exact

pub returns-clause-every : goal.returns-clause-every
returns-clause-every c n fits is = reads_every 16 (2 ^ 64 - 1) c.args.word.now _ n (omega arith) (omega arith) (omega arith) c.number.ensures.exact (omega arith) is
