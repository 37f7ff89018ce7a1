-- How many slots pass a test, and a cursor over them.
use Rattle.std.specs.Prelude.{◌≡◌, ℕ, ◌+◌, Bool, true, false, ◌&&◌, cond, List, [], ◌∷◌, Option, Some, None}
use Rattle.std.specs.List.{AllByRecursion}
use Rattle.std.specs.Ordering.{is_gt, is_lt}
use Rattle.tl_pieces.specs.declared.key.PieceKey.{PieceKey}
use Rattle.tl_pieces.specs.declared.tally.Tally.{Tally}
use Rattle.tl_pieces.specs.Keys.{key_cmp}

-- the cursor, or the key if that is before it
abbrev pub lowered : Option PieceKey → PieceKey → Option PieceKey
lowered None k = Some k
lowered (Some c) k = cond (is_lt (key_cmp c k)) (Some c) (Some k)

-- whether the cursor has passed the key
abbrev pub is_past : Option PieceKey → PieceKey → Bool
is_past None k = true
is_past (Some c) k = is_gt (key_cmp c k)

module _ {V : Type 0} (p : V → Bool) where
  -- how many pass the test
  abbrev pub count_of : List (PieceKey × V) → ℕ
  count_of [] = 0
  count_of (e ∷ es) = cond (p e.1) 1 0 + count_of es

  -- none that the cursor has passed passes the test
  abbrev pub NoneIsPassed : Option PieceKey → List (PieceKey × V) → Type 0
  NoneIsPassed c es = AllByRecursion (λ e. (p e.1 && is_past c e.0) ≡ false) es

  -- what is true of a tally: the count is exact, and so is what the cursor says
  pub record IsTally (es : List (PieceKey × V)) (t : Tally) : Type 0 where
    pub counted : t.count ≡ count_of es
    pub passed : NoneIsPassed t.cursor es
