-- Notes: lines between those of a text that tell more of it. Each begins with two spaces.
use Rattle.std.specs.Prelude.{ℕ, ◌≡◌, ◌==◌, ◌&&◌, not, Bool, true, false, List, [], ◌∷◌, filter, take, Option}
use Rattle.std.specs.List.{list_all, flat_map}
use Rattle.std.specs.Io.KnownBytes.{Appends}
use Rattle.tl_text.specs.Words.{ended}

-- It has no newline (10).
abbrev pub is_unbroken : List ℕ → Bool
is_unbroken line = list_all (λ b. not (b == 10)) line

-- It begins with two spaces (32).
abbrev pub is_note : List ℕ → Bool
is_note (b ∷ c ∷ bytes) = (b == 32) && (c == 32)
is_note (b ∷ []) = false
is_note [] = false

-- A text is whole lines, and those of them that are no notes are the plain text.
pub record IsNoted (plain text : List ℕ) : Type 0 where
  pub lines : List (List ℕ)
  pub unbroken : list_all is_unbroken lines ≡ true
  pub text_is : text ≡ flat_map ended lines
  pub plain_is : plain ≡ flat_map ended (filter (λ line. not (is_note line)) lines)

-- What is written for a plain text: the text itself, or with notes.
abbrev pub Tells : Bool → List ℕ → List ℕ → Type 0
Tells false plain text = text ≡ plain
Tells true plain text = IsNoted plain text

-- What is written for a plain text was written, or a front of it.
abbrev pub IsPut : Bool → Option (List ℕ) → Option (List ℕ) → List ℕ → Type 0
IsPut noted old new plain = (text : List ℕ) × Tells noted plain text × Appends old new text

abbrev pub IsPutFront : Bool → Option (List ℕ) → Option (List ℕ) → List ℕ → Type 0
IsPutFront noted old new plain = (text : List ℕ) × Tells noted plain text × ((n : ℕ) × Appends old new (take n text))

-- A front of the text was written.
abbrev pub AppendsFront : Option (List ℕ) → Option (List ℕ) → List ℕ → Type 0
AppendsFront old new text = (n : ℕ) × Appends old new (take n text)
