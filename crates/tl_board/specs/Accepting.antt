-- What an edit makes of the windows of managers and of monitors.
use Rattle.std.specs.Prelude.{ℕ, ◌≡◌, ◌==◌, Option, Some, None, if◌then◌else◌}
use Rattle.tl_edits.specs.Edits.{AnEdit, add, replace, withdraw, clear_link, set_region, remove_region, attach, retune, detach}
use Rattle.tl_pieces.specs.declared.key.PieceKey.{PieceKey}
use Rattle.tl_pieces.specs.Pieces.{opening_of, piece_at, result_of, live_of}
use Rattle.tl_board.specs.Edits.{EditsTo}
use Rattle.tl_board.specs.Spans.{standing}
use Rattle.tl_board.specs.declared.tally.Tally.{Tally}
use Rattle.tl_board.specs.TouchedWatches.{TouchesWatch}
use Rattle.tl_board.specs.Watches.{WatchesData}

-- What a monitor begins with after an edit, by what it began with before: one that is attached with the tally 0.
abbrev pub opening_after : AnEdit → ℕ → Option Tally → Option Tally
opening_after (attach monitor w) number before = if number == monitor then Some (record { count = 0 }) else before
opening_after (detach monitor) number before = if number == monitor then None else before
opening_after (retune monitor limit) number before = before
opening_after (add f) number before = before
opening_after (replace f) number before = before
opening_after (withdraw name n) number before = before
opening_after (clear_link name) number before = before
opening_after (set_region name n area) number before = before
opening_after (remove_region name n) number before = before

-- The edit is made of the log and of the windows of managers. The windows of monitors that it touches have neither results nor
-- tickets; all others are as they were.
pub record EditsBoth (old : WatchesData) (e : AnEdit) (new : WatchesData) : Type 0 where
  pub spans : EditsTo old.spans e new.spans
  pub openings : (number : ℕ) → opening_of number new.board.openings ≡ opening_after e number (opening_of number old.board.openings)
  pub stays : (key : PieceKey) → (TouchesWatch (standing old.spans) e key.owner key.window → ⊥) → piece_at key new.board ≡ piece_at key old.board
  pub result : (key : PieceKey) → TouchesWatch (standing old.spans) e key.owner key.window → result_of (piece_at key new.board) ≡ None
  pub ticket : (key : PieceKey) → TouchesWatch (standing old.spans) e key.owner key.window → live_of (piece_at key new.board) ≡ None
