-- What texts of fragments are, one after another.
use Rattle.std.specs.Prelude.{◌≡◌, ◌<◌, ◌*◌, ◌++◌, ℕ, List, [], ◌∷◌, Option, Some, None, Result, Ok, Err, IfOk, Vec, length, take, drop, slice_index_or, nat_lt, if◌then◌else◌}
use Rattle.std.specs.List.{flat_map}
use Rattle.tl_text.specs.Words.{lines_of}
use Rattle.tl_beats.specs.Fragments.{Frag}
use Rattle.tl_beats.specs.Reading.{whole_fragment_in}
use Rattle.tl_beats.specs.declared.fault.FragmentFault.{FragmentFault}
use Rattle.tl_beats.specs.declared.fault.FragmentFault.TheVariants as fault
use Rattle.tl_stream.specs.declared.parsers.Parsed.{Parsed}

-- the fragment that a text is, of at most 8,388,608 bytes, or its fault
abbrev pub reading : List ℕ → Result Frag FragmentFault
reading text = if nat_lt 8388608 (length text) then Err fault.TooLong else whole_fragment_in (lines_of text)

abbrev pub read_first : Result Frag FragmentFault → List Frag × Option FragmentFault → List Frag × Option FragmentFault
read_first (Ok f) others = (f ∷ others.0, others.1)
read_first (Err e) others = ([], Some e)

module _ {A : Type 0} where
  -- the fragments that texts are, up to the first text that is none, and the fault of that one
  unfoldable pub read_texts : List (Vec ℕ A) → List Frag × Option FragmentFault
  read_texts [] = ([], None)
  read_texts (text ∷ texts) = read_first (reading text.items) (read_texts texts)

  -- the bytes of texts, one after another
  abbrev pub joined_texts : List (Vec ℕ A) → List ℕ
  joined_texts texts = flat_map (λ (t : Vec ℕ A). t.items) texts

  -- They are what these texts are.
  abbrev pub AreParsed : List (Vec ℕ A) → Parsed → Type 0
  AreParsed texts parsed = read_texts texts ≡ (parsed.fragments.items, parsed.fault)

  -- Each is what the texts of its part are, where memory was had; a part is so many texts.
  abbrev pub ArePartsParsed : {E : Type 0} → List (Vec ℕ A) → ℕ → List (Result Parsed E) → Type 0
  ArePartsParsed {E} texts share parts =
      (n : ℕ) (d : Result Parsed E) → n < length parts → IfOk (slice_index_or parts n d) (AreParsed (take share (drop (n * share) texts)))

  -- Bytes begin with these texts, one after another.
  abbrev pub BeginsWith : List ℕ → List (Vec ℕ A) → Type 0
  BeginsWith bytes texts = (rest : List ℕ) × (bytes ≡ joined_texts texts ++ rest)
