use Rattle.std.proofs.Common.{arith}
use Rattle.std.proofs.lemmas.Grind.{common_steps}
use Rattle.tl_text.proofs.Numerals.{one_byte}
use Rattle.tl_text.proofs.numbers.number.Goals as goal

pub returns-in_err-digit-in-len1-clause-exact : goal.returns-in_err-digit-in-len1-clause-exact
returns-in_err-digit-in-len1-clause-exact c = grind (arith, common_steps, one_byte)

pub returns-in_ok-digit-in-len1-clause-exact : goal.returns-in_ok-digit-in-len1-clause-exact
returns-in_ok-digit-in-len1-clause-exact c = grind (arith, common_steps, one_byte)
