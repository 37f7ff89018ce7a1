-- What a map of pieces shows, and which pieces are wanted.
use Rattle.std.specs.Prelude.{◌≡◌, ℕ, ◌⊎◌, ◌==◌, cond, List, [], ◌∷◌, Option, Some, None, is_some, true, map, ⊤}
use Rattle.std.specs.Option.{option_or}
use Rattle.std.specs.Ordering.{nat_cmp}
use Rattle.std.specs.BTreeMap.{is_at}
use Rattle.std.specs.List.{AllByRecursion}
use Rattle.std.specs.List.Sorted.{IsStrictlySortedBy}
use Rattle.std.specs.Map.{keys_of, lookup, remove_entry}
use Rattle.tl_pieces.specs.declared.key.PieceKey.{PieceKey}
use Rattle.tl_pieces.specs.Keys.{before, value_at, owned_by, without, Rises, IsNotBefore}

-- a result of a window: the state that it was checked from, the state after it, and its rows
pub record Pass (S R : Type 0) : Type 0 where
  pub entry : S
  pub exit : S
  pub rows : R

-- the result of a window, and its live ticket
pub record Piece (S R : Type 0) : Type 0 where
  pub result : Option (Pass S R)
  pub live : Option ℕ

-- the opening state of each owner, and the pieces, each in the order of its keys
pub record Board (S R : Type 0) : Type 0 where
  pub openings : List (ℕ × S)
  pub pieces : List (PieceKey × Piece S R)

module _ {S : Type 0} where
  abbrev pub opening_of : ℕ → List (ℕ × S) → Option S
  opening_of o os = lookup (is_at (nat_cmp o)) os

  -- the owners rise
  abbrev pub OwnersRise : List (ℕ × S) → Type 0
  OwnersRise os = IsStrictlySortedBy nat_cmp (keys_of os)

  -- The exit before a piece of an owner: that of the owner's window just before, or the opening state where there is none. What stands before
  -- it in the list is told by an owner and the exit of its last window there, if that has a result; None: nothing stands before it.
  abbrev pub exit_before : List (ℕ × S) → Option (ℕ × Option S) → ℕ → Option S
  exit_before openings None o = opening_of o openings
  exit_before openings (Some l) o = cond (l.0 == o) l.1 (opening_of o openings)

module _ {S R : Type 0} where
  abbrev pub empty : Piece S R
  empty = record { result = None; live = None }

  abbrev pub with_result : Pass S R → Piece S R → Piece S R
  with_result r p = record p { result = Some r }

  abbrev pub with_live : Option ℕ → Piece S R → Piece S R
  with_live t p = record p { live = t }

  abbrev pub with_pieces : Board S R → List (PieceKey × Piece S R) → Board S R
  with_pieces b es = record b { pieces = es }

  abbrev pub with_openings : Board S R → List (ℕ × S) → Board S R
  with_openings b os = record b { openings = os }

  -- what is said of a piece, if it is there
  abbrev pub live_of : Option (Piece S R) → Option ℕ
  live_of None = None
  live_of (Some p) = p.live

  abbrev pub result_of : Option (Piece S R) → Option (Pass S R)
  result_of None = None
  result_of (Some p) = p.result

  abbrev pub piece_at : PieceKey → Board S R → Option (Piece S R)
  piece_at k b = value_at k b.pieces

  -- what every board is: owners and keys rise, and each piece is of an owner
  pub record IsBoard (b : Board S R) : Type 0 where
    pub owners : OwnersRise b.openings
    pub keys : Rises b.pieces
    pub owned : AllByRecursion (λ e. is_some (opening_of e.0.owner b.openings) ≡ true) b.pieces

  -- all pieces of an owner lose their results and their live tickets
  abbrev pub touched_all : ℕ → List (PieceKey × Piece S R) → List (PieceKey × Piece S R)
  touched_all o es = map (λ e. (e.0, cond (e.0.owner == o) empty e.1)) es

  -- an owner goes with all its pieces
  abbrev pub without_owner : ℕ → Board S R → Board S R
  without_owner o b = record { openings = remove_entry (is_at (nat_cmp o)) b.openings; pieces = without o b.pieces }

  abbrev pub exit_of : Option (Pass S R) → Option S
  exit_of None = None
  exit_of (Some r) = Some r.exit

  -- what a piece leaves to the one after it in the list
  abbrev pub left_by : PieceKey → Piece S R → Option (ℕ × Option S)
  left_by k p = Some (k.owner, exit_of p.result)

  -- the key of the first piece of which P is true
  abbrev pub IsFirst : (Option (ℕ × Option S) → PieceKey → Piece S R → Type 0) → Option (ℕ × Option S) → List (PieceKey × Piece S R) → Option PieceKey → Type 0
  IsFirst P l [] r = r ≡ None
  IsFirst P l (e ∷ es) r = (P l e.0 e.1 × (r ≡ Some e.0)) ⊎ ((P l e.0 e.1 → ⊥) × IsFirst P (left_by e.0 e.1) es r)

  -- the exit of the last piece of an owner that has a result
  abbrev pub last_exit : ℕ → List (PieceKey × Piece S R) → Option S
  last_exit o [] = None
  last_exit o (e ∷ es) = option_or (last_exit o es) (cond (e.0.owner == o) (exit_of e.1.result) None)

  -- what a job for a key is to start from: the exit of the nearest earlier window of the owner that has a result, or else the owner's opening state
  abbrev pub entry_for : PieceKey → Board S R → Option S
  entry_for k b = option_or (last_exit k.owner (before k b.pieces)) (opening_of k.owner b.openings)

  -- P is true of the piece of a key, and there is one
  abbrev pub IsAt : (Option (ℕ × Option S) → PieceKey → Piece S R → Type 0) → Option (ℕ × Option S) → List (PieceKey × Piece S R) → PieceKey → Type 0
  IsAt P l [] k = ⊥
  IsAt P l (e ∷ es) k = ((e.0 ≡ k) × P l e.0 e.1) ⊎ ((e.0 ≡ k → ⊥) × IsAt P (left_by e.0 e.1) es k)

  module _ (same : S → S → Type 0) where
    -- not wanted: there is a result, and its entry is the exit before it, if that is there
    abbrev pub IsGood : Option S → Option (Pass S R) → Type 0
    IsGood before None = ⊥
    IsGood None (Some r) = ⊤
    IsGood (Some s) (Some r) = same r.entry s

    -- there is a result, and its entry is the exit before it, which is there
    abbrev pub Follows : Option S → Option (Pass S R) → Type 0
    Follows None r = ⊥
    Follows (Some s) r = IsGood (Some s) r

    module _ (openings : List (ℕ × S)) where
      abbrev pub IsWanted : Option (ℕ × Option S) → PieceKey → Piece S R → Type 0
      IsWanted l k p = IsGood (exit_before openings l k.owner) p.result → ⊥

      -- wanted, and without a live ticket
      abbrev pub IsFree : Option (ℕ × Option S) → PieceKey → Piece S R → Type 0
      IsFree l k p = IsWanted l k p × (p.live ≡ None)

      -- every piece has a result, and its entry is the exit before it
      abbrev pub ChainsFrom : Option (ℕ × Option S) → List (PieceKey × Piece S R) → Type 0
      ChainsFrom l [] = ⊤
      ChainsFrom l (e ∷ es) = Follows (exit_before openings l e.0.owner) e.1.result × ChainsFrom (left_by e.0 e.1) es

      abbrev pub NoneIsWanted : Option (ℕ × Option S) → List (PieceKey × Piece S R) → Type 0
      NoneIsWanted l [] = ⊤
      NoneIsWanted l (e ∷ es) = (IsWanted l e.0 e.1 → ⊥) × NoneIsWanted (left_by e.0 e.1) es

    -- a result is there and begins at a state, and what follows holds of its exit
    abbrev pub Links : S → Option (Pass S R) → (S → Type 0) → Type 0
    Links s None P = ⊥
    Links s (Some r) P = same r.entry s × P r.exit

    -- the results stand in a chain from a state
    abbrev pub IsChain : S → List (PieceKey × Piece S R) → Type 0
    IsChain s [] = ⊤
    IsChain s (e ∷ es) = Links s e.1.result (λ t. IsChain t es)

    -- the same, and they end with another state
    abbrev pub IsChainTo : S → List (PieceKey × Piece S R) → S → Type 0
    IsChainTo s [] t = s ≡ t
    IsChainTo s (e ∷ es) t = Links s e.1.result (λ u. IsChainTo u es t)

    -- the pieces of each owner stand in a chain from its opening state
    abbrev pub EachOwnerIsChained : Board S R → Type 0
    EachOwnerIsChained b = (o : ℕ) (s : S) → opening_of o b.openings ≡ Some s → IsChain s (owned_by o b.pieces)

    abbrev pub IsSettled : Board S R → Type 0
    IsSettled b = ChainsFrom b.openings None b.pieces

    abbrev pub HasNoneWanted : Board S R → Type 0
    HasNoneWanted b = NoneIsWanted b.openings None b.pieces

    abbrev pub IsWantedAt : Board S R → PieceKey → Type 0
    IsWantedAt b k = IsAt (IsWanted b.openings) None b.pieces k

    abbrev pub IsFirstWanted : Board S R → Option PieceKey → Type 0
    IsFirstWanted b r = IsFirst (IsWanted b.openings) None b.pieces r

    abbrev pub IsFirstFree : Board S R → Option PieceKey → Type 0
    IsFirstFree b r = IsFirst (IsFree b.openings) None b.pieces r

    -- the same from a key on
    abbrev pub IsNextWanted : Board S R → PieceKey → Option PieceKey → Type 0
    IsNextWanted b from r = IsFirst (λ l k p. IsNotBefore from k × IsWanted b.openings l k p) None b.pieces r

    abbrev pub IsNextFree : Board S R → PieceKey → Option PieceKey → Type 0
    IsNextFree b from r = IsFirst (λ l k p. IsNotBefore from k × IsFree b.openings l k p) None b.pieces r

    -- the owner's pieces before the key stand in a chain from its opening state to the state that a job for the key is to start from
    abbrev pub HasTrueEntry : Board S R → PieceKey → Type 0
    HasTrueEntry b k = (s : S) → opening_of k.owner b.openings ≡ Some s → (t : S) × (entry_for k b ≡ Some t) × IsChainTo s (owned_by k.owner (before k b.pieces)) t
