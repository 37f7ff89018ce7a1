-- Lines that are put together from words.
use Rattle.std.specs.Prelude.{ℕ, List, [], ◌∷◌, ◌++◌, map}
use Rattle.std.specs.List.{join_with_byte}
use Rattle.tl_text.specs.Numbers.{numeral}
use Rattle.tl_text.specs.Names.{bit}
use Rattle.tl_text.specs.declared.writing.Word.{Word}
use Rattle.tl_text.specs.declared.writing.Word.TheVariants.{Decimal, Hexadecimal, Bit, Letter}

-- the one spelling of a word
abbrev pub word_text : Word → List ℕ
word_text (Decimal n) = numeral 10 n
word_text (Hexadecimal n) = numeral 16 n
word_text (Bit b) = bit b
word_text (Letter byte) = byte ∷ []

-- words with a space (32) between them, and the newline (10)
abbrev pub line_text : List Word → List ℕ
line_text words = join_with_byte 32 (map word_text words) ++ 10 ∷ []
