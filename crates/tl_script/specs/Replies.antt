-- The lines of an edit and of a refusal.
use Rattle.std.specs.Prelude.{ℕ, List, [], ◌∷◌, ◌++◌, codes, Option, Some, None}
use Rattle.std.specs.Fmt.{decimal}
use Rattle.tl_check.specs.Output.{joined, newline}

-- the edit's number
unfoldable pub edit_text : ℕ → List ℕ
edit_text number = joined (codes "edit " ∷ decimal number ∷ newline ∷ [])

abbrev pub and_number : Option ℕ → List ℕ
and_number None = []
and_number (Some number) = codes " " ++ decimal number

-- the number of a refusal, and what it names
unfoldable pub refused_text : ℕ → Option ℕ → List ℕ
refused_text code number = joined (codes "refused " ∷ decimal code ∷ and_number number ∷ newline ∷ [])
