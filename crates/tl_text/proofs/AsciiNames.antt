-- A name is ASCII.
use Rattle.std.proofs.Common.{◌≡◌, ℕ, zero, suc, ◌<◌, true, List, [], ◌∷◌, arith}
use Rattle.std.specs.List.{list_all}
use Rattle.std.specs.Str.{IsAscii}
use Rattle.std.proofs.lemmas.Bool.{false≢true, and_parts}
use Rattle.std.proofs.lemmas.Bool.Decides.{nat_tests}
use Rattle.tl_text.specs.Names.{is_name, is_name_byte, is_lower}

byte_ascii : (b : ℕ) → is_name_byte b ≡ true → b < 128
byte_ascii b h = grind (arith, nat_tests)

lower_ascii : (b : ℕ) → is_lower b ≡ true → b < 128
lower_ascii b h = grind (arith, nat_tests)

bytes_ascii : (bytes : List ℕ) → list_all is_name_byte bytes ≡ true → IsAscii bytes
bytes_ascii [] h i = omega arith
bytes_ascii (b ∷ bytes) h zero = byte_ascii b (and_parts _ _ h).0
bytes_ascii (b ∷ bytes) h (suc i) = bytes_ascii bytes (and_parts _ _ h).1 i

front_ascii : (b : ℕ) (bytes : List ℕ) → b < 128 → IsAscii bytes → IsAscii (b ∷ bytes)
front_ascii b bytes low rest zero = low
front_ascii b bytes low rest (suc i) = rest i

pub name_ascii : (word : List ℕ) → is_name word ≡ true → IsAscii word
unfolding is_name
name_ascii [] h = absurd (false≢true h)
name_ascii (b ∷ bytes) h =
    let parts = and_parts _ _ h in
    front_ascii b bytes (lower_ascii b (and_parts _ _ parts.0).0) (bytes_ascii bytes parts.1)
