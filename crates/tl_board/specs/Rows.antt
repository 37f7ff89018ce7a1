-- The rows of all windows, one window after the other.
use Rattle.std.specs.Prelude.{List, [], ◌∷◌, ◌++◌, Option, None, Some}
use Rattle.tl_beats.specs.declared.Row.{Row}
use Rattle.tl_pieces.specs.declared.key.PieceKey.{PieceKey}
use Rattle.tl_pieces.specs.Pieces.{Pass, Piece}

module _ {S : Type 0} where
  -- of a window without a result none
  abbrev pub rows_of : Option (Pass S (List Row)) → List Row
  rows_of None = []
  rows_of (Some result) = result.rows

  abbrev pub all_rows : List (PieceKey × Piece S (List Row)) → List Row
  all_rows [] = []
  all_rows (e ∷ es) = rows_of e.1.result ++ all_rows es
