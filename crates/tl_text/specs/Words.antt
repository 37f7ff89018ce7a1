-- How a text is cut into lines, and a line into words. Each reading answers None where nothing is spelled.
use Rattle.std.specs.Prelude.{◌≡◌, ℕ, ◌==◌, List, [], ◌∷◌, ◌++◌, Option, Some, None, if◌then◌else◌, option_and_then, option_map}
use Rattle.std.specs.List.{slice_split}

-- the second reading on what the first gives
infixl 10 ◌>>=◌
abbrev pub ◌>>=◌ : {A B : Type 0} → Option A → (A → Option B) → Option B
o >>= f = option_and_then f o

-- the bytes before the first stop, and those after it, where there is one
abbrev pub cut : ℕ → List ℕ → List ℕ × Option (List ℕ)
cut stop [] = ([], None)
cut stop (b ∷ bytes) = if b == stop then ([], Some bytes) else (b ∷ (cut stop bytes).0, (cut stop bytes).1)

-- both, where there is a stop
abbrev pub before_stop : ℕ → List ℕ → Option (List ℕ × List ℕ)
before_stop stop bytes = option_map (λ rest. ((cut stop bytes).0, rest)) (cut stop bytes).1

-- a word, and what stands after the one space (32) after it
unfoldable pub word_at : List ℕ → Option (List ℕ × List ℕ)
word_at line = before_stop 32 line

-- a line, and what stands after its newline (10)
unfoldable pub line_at : List ℕ → Option (List ℕ × List ℕ)
line_at bytes = before_stop 10 bytes

-- the pieces of a text between its newlines; the last of them isn't ended by one
abbrev pub lines_of : List ℕ → List (List ℕ)
lines_of bytes = slice_split (λ b. b == 10) bytes

-- the first line and the pieces after it, where it is ended
abbrev pub first_line : List (List ℕ) → Option (List ℕ × List (List ℕ))
first_line [] = None
first_line (line ∷ []) = None
first_line (line ∷ next ∷ lines) = Some (line, next ∷ lines)

-- a word, a space (32), and what follows
infixr 20 ◌␣◌
abbrev pub ◌␣◌ : List ℕ → List ℕ → List ℕ
word ␣ rest = word ++ 32 ∷ rest

-- a line with its newline (10)
abbrev pub ended : List ℕ → List ℕ
ended line = line ++ 10 ∷ []

-- the second stands at the end of the first
abbrev pub IsBehind : List ℕ → List ℕ → Type 0
IsBehind bytes rest = (front : List ℕ) × (bytes ≡ front ++ rest)
