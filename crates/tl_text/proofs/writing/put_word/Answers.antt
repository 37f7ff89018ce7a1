use Rattle.std.proofs.Common.{arith, rules, length-append}
use Rattle.tl_text.proofs.Digits.{decimal_short, hexadecimal_short}
use Rattle.tl_text.proofs.writing.put_word.Goals as goal

pub put_number-requires-clause-room : goal.put_number-requires-clause-room
put_number-requires-clause-room c = omega (arith, decimal_short c.in-Decimal.number (search rules), c.requires)

pub put_number-requires-in-Hexadecimal-clause-room : goal.put_number-requires-in-Hexadecimal-clause-room
put_number-requires-in-Hexadecimal-clause-room c = omega (arith, hexadecimal_short c.in-Hexadecimal.number (search rules), c.requires)

pub returns-in-Decimal-clause-short : goal.returns-in-Decimal-clause-short
returns-in-Decimal-clause-short c = rw (c.put_number.ensures, length-append) (omega (arith, decimal_short c.in-Decimal.number (search rules)))

pub returns-in-Hexadecimal-clause-short : goal.returns-in-Hexadecimal-clause-short
returns-in-Hexadecimal-clause-short c = rw (c.put_number-in-Hexadecimal.ensures, length-append) (omega (arith, hexadecimal_short c.in-Hexadecimal.number (search rules)))
