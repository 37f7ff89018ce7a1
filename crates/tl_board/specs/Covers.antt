-- What a board of checked windows stands for. Its owners are managers or monitors: of each it is known what a state shows, how beats are judged by
-- that, and which beats are its own.
use Rattle.std.specs.Prelude.{◌≡◌, ◌↔◌, ℕ, List, Some, is_some, true}
use Rattle.std.specs.List.{Contains}
use Rattle.tl_beats.specs.declared.Placed.{Placed}
use Rattle.tl_beats.specs.declared.Row.{Row}
use Rattle.tl_definitions.specs.Passes.{Judge, IsPass}
use Rattle.tl_pieces.specs.declared.key.PieceKey.{PieceKey}
use Rattle.tl_pieces.specs.Pieces.{Pass, Board, opening_of, piece_at, result_of}
use Rattle.tl_capture.specs.Windows.{beats_in, HasBeat}

module _ {S X : Type 0} (Shows : ℕ → S → X → Type 0) (judge : ℕ → Judge X) (beats : ℕ → List Placed) where
  -- The result is a pass over the owner's beats of the window, from its own entry, whatever that is.
  pub record IsOfWindow (owner window : ℕ) (result : Pass S (List Row)) : Type 0 where
    pub entry : X
    pub exit : X
    pub begins : Shows owner result.entry entry
    pub ends : Shows owner result.exit exit
    pub pass : IsPass (judge owner) (record { entry = entry; beats = beats_in window (beats owner); exit = exit; rows = result.rows })

  -- Each owner begins with what it is to begin with, has a piece for each window in which it has a beat and no other, and each result is of its window.
  pub record Covers (opening : ℕ → X) (board : Board S (List Row)) : Type 0 where
    pub openings : (owner : ℕ) (state : S) → opening_of owner board.openings ≡ Some state → Shows owner state (opening owner)
    pub windows : (key : PieceKey) → is_some (opening_of key.owner board.openings) ≡ true → (is_some (piece_at key board) ≡ true) ↔ HasBeat (beats key.owner) key.window
    pub results : (key : PieceKey) (result : Pass S (List Row)) → result_of (piece_at key board) ≡ Some result → IsOfWindow key.owner key.window result

-- Some result of the owner has the row.
abbrev pub HasRow : {S : Type 0} → Board S (List Row) → ℕ → Row → Type 0
HasRow {S} board owner row = (key : PieceKey) × (result : Pass S (List Row)) × (key.owner ≡ owner) × (result_of (piece_at key board) ≡ Some result) × Contains result.rows row
