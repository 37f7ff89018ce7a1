use Rattle.std.proofs.Common.{◌≡◌, drop}
use Rattle.tl_text.specs.Numbers.{value_after}
use Rattle.tl_text.proofs.numbers.long_number.Given as goal

abbrev pub invariant-loop-byte : goal.invariant-loop-byte
invariant-loop-byte l = value_after l.base l.value (drop l.byte-index l.word) ≡ value_after l.base 0 l.word
