-- Bits and names.
use Rattle.std.specs.Prelude.{ℕ, ◌==◌, ◌&&◌, ◌||◌, Bool, true, false, List, [], ◌∷◌, length, Option, Some, None, nat_le, if◌then◌else◌}
use Rattle.std.specs.List.{list_all}

-- the text of a bit: 0 or 1
abbrev pub bit : Bool → List ℕ
bit false = 48 ∷ []
bit true = 49 ∷ []

unfoldable pub bit_at : List ℕ → Option Bool
bit_at (b ∷ []) = if b == 48 then Some false else (if b == 49 then Some true else None)
bit_at [] = None
bit_at (b ∷ c ∷ bytes) = None

abbrev pub is_lower : ℕ → Bool
is_lower b = nat_le 97 b && nat_le b 122

-- a lower-case letter, a digit or '_'
abbrev pub is_name_byte : ℕ → Bool
is_name_byte b = (is_lower b || (nat_le 48 b && nat_le b 57)) || b == 95

-- a lower-case letter and up to 15 name bytes
unfoldable pub is_name : List ℕ → Bool
is_name [] = false
is_name (b ∷ bytes) = (is_lower b && nat_le (length bytes) 15) && list_all is_name_byte bytes
