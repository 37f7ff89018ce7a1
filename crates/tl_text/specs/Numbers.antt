-- The one spelling of a number: digits with no leading zero, in lower case.
use Rattle.std.specs.Prelude.{ℕ, ◌+◌, ◌-◌, ◌*◌, ◌==◌, Bool, true, false, List, [], ◌∷◌, Option, Some, None, nat_lt, nat_le, if◌then◌else◌}
use Rattle.std.specs.Fmt.{digits}
use Rattle.tl_text.specs.Words.{◌>>=◌}

-- the text of a number in a base from 2 to 16
abbrev pub numeral : ℕ → ℕ → List ℕ
numeral base n = digits base false n

-- the digit that a byte is, '0' to '9' and 'a' to 'f'
unfoldable pub digit : ℕ → ℕ → Option ℕ
digit base b = do
  d ← if nat_lt b 48 then None else (if nat_lt b 58 then Some (b - 48) else (if nat_lt b 97 then None else (if nat_lt b 103 then Some (b - 97 + 10) else None)))
  if nat_lt d base then Some d else None

-- the number that bytes spell after the digits of n
unfoldable pub value_after : ℕ → ℕ → List ℕ → Option ℕ
value_after base n [] = Some n
value_after base n (b ∷ bytes) = digit base b >>= λ d. value_after base (n * base + d) bytes

-- there is a digit, and no zero before others
abbrev pub is_led : List ℕ → Bool
is_led [] = false
is_led (b ∷ []) = true
is_led (b ∷ c ∷ bytes) = if b == 48 then false else true

-- the number that a word spells, where it is at most most
unfoldable pub number_at : ℕ → ℕ → List ℕ → Option ℕ
number_at base most word = if is_led word then (value_after base 0 word >>= λ n. if nat_le n most then Some n else None) else None
