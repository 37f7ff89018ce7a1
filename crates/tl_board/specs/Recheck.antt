-- What checking again makes of a board: which windows are checked, and that all else stays.
use Rattle.std.specs.Prelude.{◌≡◌, ℕ, List, None, length, is_some, true}
use Rattle.std.specs.List.{Contains}
use Rattle.std.specs.List.Sorted.{IsStrictlySortedBy}
use Rattle.tl_pieces.specs.declared.key.PieceKey.{PieceKey}
use Rattle.tl_pieces.specs.Keys.{key_cmp}
use Rattle.tl_pieces.specs.Pieces.{Board, piece_at, result_of, live_of, entry_for, Follows, IsSettled, HasTrueEntry}

module _ {S R : Type 0} (same : S → S → Type 0) where
  -- The window had no result, or one that doesn't begin with what stands before it in the new board.
  pub record IsStale (old new : Board S R) (key : PieceKey) : Type 0 where
    pub there : is_some (piece_at key old) ≡ true
    pub parted : Follows same (entry_for key new) (result_of (piece_at key old)) → ⊥

  -- Each of these windows was stale, and has a result that begins with what stands before it, and no ticket. What stands before it is no
  -- guess: the windows of its owner before it stand in a chain from the opening state. All else stays, and so do the tickets of all other
  -- windows.
  pub record ChecksThese (keys : List PieceKey) (old new : Board S R) : Type 0 where
    pub openings : new.openings ≡ old.openings
    pub there : (key : PieceKey) → is_some (piece_at key new) ≡ is_some (piece_at key old)
    pub tickets : (key : PieceKey) → Contains keys key → live_of (piece_at key new) ≡ None
    pub rise : IsStrictlySortedBy key_cmp keys
    pub stale : (key : PieceKey) → Contains keys key → IsStale old new key
    pub begins : (key : PieceKey) → Contains keys key → Follows same (entry_for key new) (result_of (piece_at key new))
    pub true_entries : (key : PieceKey) → Contains keys key → HasTrueEntry same new key
    pub stays : (key : PieceKey) → (Contains keys key → ⊥) → piece_at key new ≡ piece_at key old

  -- So many windows were stale, and were checked. All are settled.
  pub record Rechecks (old new : Board S R) (count : ℕ) : Type 0 where
    pub keys : List PieceKey
    pub checked : ChecksThese keys old new
    pub all : (key : PieceKey) → IsStale old new key → Contains keys key
    pub number : count ≡ length keys
    pub settled : IsSettled same new

  -- Some windows that were stale were checked.
  abbrev pub ChecksSome : Board S R → Board S R → Type 0
  ChecksSome old new = (keys : List PieceKey) × ChecksThese keys old new
