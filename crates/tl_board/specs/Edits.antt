-- What an edit makes of the windows of managers.
use Rattle.std.specs.Prelude.{◌≡◌, ◌++◌, ◌∷◌, [], None}
use Rattle.tl_edits.specs.Edits.{AnEdit}
use Rattle.tl_pieces.specs.declared.key.PieceKey.{PieceKey}
use Rattle.tl_pieces.specs.Pieces.{piece_at, result_of, live_of}
use Rattle.tl_board.specs.Touch.{Touches}
use Rattle.tl_board.specs.Spans.{SpansData, standing}

-- The edit stands at the log's end. The windows that it touches have neither results nor tickets; all others are as they were.
pub record EditsTo (old : SpansData) (e : AnEdit) (new : SpansData) : Type 0 where
  pub log : new.log ≡ record old.log { edits = old.log.edits ++ e ∷ [] }
  pub openings : new.board.openings ≡ old.board.openings
  pub stays : (key : PieceKey) → (Touches (standing old) e key.owner key.window → ⊥) → piece_at key new.board ≡ piece_at key old.board
  pub result : (key : PieceKey) → Touches (standing old) e key.owner key.window → result_of (piece_at key new.board) ≡ None
  pub ticket : (key : PieceKey) → Touches (standing old) e key.owner key.window → live_of (piece_at key new.board) ≡ None
