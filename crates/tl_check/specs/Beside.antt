-- What several threads find, put together.
use Rattle.std.specs.Prelude.{ℕ, ◌≡◌, List, Option, Some, None, Result, Ok, Err, Vec, map}
use Rattle.std.specs.List.{flat_map}
use Rattle.tl_beats.specs.declared.Row.{Row}

-- The rows of a part, where memory was had.
abbrev pub rows_of_part : {Z E : Type 0} → Result (Vec Row Z) E → Option (List Row)
rows_of_part (Ok rows) = Some rows.items
rows_of_part (Err error) = None

-- Each part has rows, and these are all of them, one part after the other.
abbrev pub AreJoined : {Z E : Type 0} → List (Result (Vec Row Z) E) → List Row → Type 0
AreJoined parts rows = (found : List (List Row)) × (map rows_of_part parts ≡ map Some found) × (rows ≡ flat_map (λ own. own) found)
