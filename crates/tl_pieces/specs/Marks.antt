-- The marks of slots are exact.
use Rattle.std.specs.Prelude.{◌≡◌, ℕ, not, List, [], ◌∷◌, ◌++◌, Option, Some, None, map, ⊤, is_some, true}
use Rattle.std.specs.Bool.{Decides}
use Rattle.std.specs.Arc.{arc_value}
use Rattle.std.specs.declared.sync.Arc.{Arc}
use Rattle.tl_pieces.specs.declared.key.PieceKey.{PieceKey}
use Rattle.tl_pieces.specs.declared.slot.Stored.{Stored}
use Rattle.tl_pieces.specs.declared.slot.Slot.{Slot}
use Rattle.tl_pieces.specs.Pieces.{Pass, Piece, opening_of, left_by, exit_before, IsGood}

module _ {S Y : Type 0} where
  -- the opening states that are shown
  abbrev pub openings_of : List (ℕ × Arc S Y) → List (ℕ × S)
  openings_of os = map (λ o. (o.0, arc_value o.1)) os

module _ {S R : Type 0} where
  abbrev pub pass_of : Stored S R → Pass S R
  pass_of r = record { entry = arc_value r.entry; exit = arc_value r.exit; rows = r.rows }

  abbrev pub passed : Option (Stored S R) → Option (Pass S R)
  passed None = None
  passed (Some r) = Some (pass_of r)

  abbrev pub piece_of : Slot S R → Piece S R
  piece_of s = record { result = passed s.result; live = s.live }

  abbrev pub shown : List (PieceKey × Slot S R) → List (PieceKey × Piece S R)
  shown es = map (λ e. (e.0, piece_of e.1)) es

  abbrev pub left : PieceKey × Slot S R → Option (ℕ × Option S)
  left e = left_by e.0 (piece_of e.1)

  -- what the last piece leaves
  abbrev pub ends : Option (ℕ × Option S) → List (PieceKey × Slot S R) → Option (ℕ × Option S)
  ends l [] = l
  ends l (e ∷ es) = ends (left e) es

  abbrev pub pass_at : Option (Slot S R) → Option (Pass S R)
  pass_at None = None
  pass_at (Some s) = passed s.result

  module _ (same : S → S → Type 0) (openings : List (ℕ × S)) where
    -- the mark is exact, and the owner has an opening state
    pub record IsExact (l : Option (ℕ × Option S)) (k : PieceKey) (s : Slot S R) : Type 0 where
      pub owner : is_some (opening_of k.owner openings) ≡ true
      pub mark : Decides (not s.wanted) (IsGood same (exit_before openings l k.owner) (passed s.result))

    abbrev pub IsMarked : Option (ℕ × Option S) → List (PieceKey × Slot S R) → Type 0
    IsMarked l [] = ⊤
    IsMarked l (e ∷ es) = IsExact l e.0 e.1 × IsMarked (left e) es

    -- all marks, but that of the first where its key is `next`
    abbrev pub IsMarkedBehind : Option PieceKey → Option (ℕ × Option S) → List (PieceKey × Slot S R) → Type 0
    IsMarkedBehind None l es = IsMarked l es
    IsMarkedBehind (Some next) l [] = ⊥
    IsMarkedBehind (Some next) l (e ∷ es) = (next ≡ e.0) × (is_some (opening_of e.0.owner openings) ≡ true) × IsMarked (left e) es

    -- all marks, but that of the piece `next`
    pub record IsMarkedBut (next : Option PieceKey) (es : List (PieceKey × Slot S R)) : Type 0 where
      pub front : List (PieceKey × Slot S R)
      pub back : List (PieceKey × Slot S R)
      pub all : es ≡ front ++ back
      pub marked : IsMarked None front
      pub behind : IsMarkedBehind next (ends None front) back
