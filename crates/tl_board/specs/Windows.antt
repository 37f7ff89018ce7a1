-- Pieces of some keys that come, go, lose their results, or get them.
use Rattle.std.specs.Prelude.{◌≡◌, ◌⊎◌, ◌↔◌, ℕ, List, Option, None, Some, is_some, true, cond}
use Rattle.std.specs.List.{Contains}
use Rattle.tl_pieces.specs.declared.key.PieceKey.{PieceKey}
use Rattle.std.specs.BTreeMap.{is_at}
use Rattle.tl_pieces.specs.Keys.{key_cmp}
use Rattle.tl_pieces.specs.Pieces.{Board, Pass, Piece, empty, piece_at}

abbrev pub key_of : ℕ → ℕ → PieceKey
key_of owner window = record { owner = owner; window = window }

-- These are exactly the keys with one of the owners and one of the windows.
abbrev pub AreKeysOf : List ℕ → List ℕ → List PieceKey → Type 0
AreKeysOf owners windows keys = (key : PieceKey) → Contains keys key ↔ (Contains owners key.owner × Contains windows key.window)

module _ {S R : Type 0} where
  -- Blank pieces have come, each of one of these keys, where none was. All else is as it was.
  pub record IsGrown (keys : List PieceKey) (old new : Board S R) : Type 0 where
    pub openings : new.openings ≡ old.openings
    pub pieces : (key : PieceKey) → (piece_at key new ≡ piece_at key old) ⊎ (Contains keys key × (piece_at key old ≡ None) × (piece_at key new ≡ Some empty))

  -- Each key has its piece.
  abbrev pub HasAll : List PieceKey → Board S R → Type 0
  HasAll keys board = (key : PieceKey) → Contains keys key → is_some (piece_at key board) ≡ true

  -- The piece of a key is gone, if there was one. All else is as it was.
  pub record IsTaken (key : PieceKey) (old new : Board S R) : Type 0 where
    pub openings : new.openings ≡ old.openings
    pub pieces : (other : PieceKey) → piece_at other new ≡ cond (is_at (key_cmp other) key) None (piece_at other old)

  -- Of these keys the pieces of those are gone of whose windows P isn't true. All else is as it was.
  pub record IsPruned (P : ℕ → Type 0) (keys : List PieceKey) (old new : Board S R) : Type 0 where
    pub openings : new.openings ≡ old.openings
    pub each : (key : PieceKey) → (piece_at key new ≡ piece_at key old) ⊎ (piece_at key new ≡ None)
    pub stays : (key : PieceKey) → (Contains keys key → P key.window) → piece_at key new ≡ piece_at key old
    pub left : (key : PieceKey) → Contains keys key → is_some (piece_at key new) ≡ true → P key.window

  abbrev pub blank : Option (Piece S R) → Option (Piece S R)
  blank None = None
  blank (Some piece) = Some empty

  -- The pieces of these keys have neither results nor tickets. All else is as it was.
  pub record AreBlank (keys : List PieceKey) (old new : Board S R) : Type 0 where
    pub openings : new.openings ≡ old.openings
    pub each : (key : PieceKey) → (piece_at key new ≡ piece_at key old) ⊎ (piece_at key new ≡ blank (piece_at key old))
    pub stays : (key : PieceKey) → (Contains keys key → ⊥) → piece_at key new ≡ piece_at key old
    pub these : (key : PieceKey) → Contains keys key → piece_at key new ≡ blank (piece_at key old)

  -- A piece that was checked has this result and no ticket.
  abbrev pub with_checked : Pass S R → Piece S R → Piece S R
  with_checked r p = record { result = Some r; live = None }
