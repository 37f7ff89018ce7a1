-- What an input of fragments has left.
use Rattle.std.specs.Prelude.{ℕ, ◌≡◌, ◌++◌, List, Option, Some, None}
use Rattle.std.specs.Io.KnownBytes.{prepend_known, Keeps, Consumes, IsAtEnd}
use Rattle.tl_beats.specs.Text.{fragment_text}
use Rattle.tl_stream.specs.declared.feed.Cut.{Cut}
use Rattle.tl_stream.specs.declared.feed.Cut.TheVariants as cut

-- all bytes that are left of an input, of which some were read, where those that reads will give are known
abbrev pub all_left : List ℕ → Option (List ℕ) → Option (List ℕ)
all_left feed remaining = prepend_known feed remaining

-- The text at the front of these bytes: a fragment's is its own; that of one that is not checked is a front of them.
abbrev pub IsCut : List ℕ → List ℕ → Cut → Type 0
IsCut old new (cut.Fragment f) = old ≡ fragment_text f ++ new
IsCut old new (cut.Passed passed) = (text : List ℕ) × (old ≡ text ++ new)

-- A fragment is the one whose text was at the front, and one that is not checked had a text there; none where nothing is left.
abbrev pub Gives : Option (List ℕ) → Option (List ℕ) → Option Cut → Type 0
Gives old new None = Keeps old new × IsAtEnd new
Gives old new (Some (cut.Fragment f)) = Consumes old new (fragment_text f)
Gives old new (Some (cut.Passed passed)) = (text : List ℕ) × Consumes old new text
