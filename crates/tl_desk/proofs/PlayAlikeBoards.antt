-- What each call makes of windows that show the same.
use Rattle.std.proofs.Common.{◌≡◌, ℕ, ◌⊎◌, inl, inr, ◌==◌, true, false, cond, Bool, List, [], ◌∷◌, Option, Some, None, refl, sym, ap, subst, ◌∙◌}
use Rattle.tl_beats.specs.declared.Row.{Row}
use Rattle.tl_pieces.specs.declared.key.PieceKey.{PieceKey}
use Rattle.tl_pieces.specs.Keys.{change}
use Rattle.tl_pieces.specs.Pieces.{Board, Piece, Pass, IsAt, IsFirst, IsGood, IsWanted, IsWantedAt, IsFree, IsFirstFree, opening_of, exit_before, left_by, piece_at, live_of, with_live, with_pieces}
use Rattle.tl_board.specs.Windows.{with_checked}
use Rattle.tl_desk.specs.Alike.{AreBoth, SamePass, SamePiece, HaveSamePieces}
use Rattle.tl_desk.proofs.AlikeBoards.{OpenAlike}
use Rattle.tl_desk.proofs.PlayAlikePieces.{Listed, lives_alike, exits_alike, changed_alike}

module _ {S : Type 0} (same : S → S → Type 0) where
  -- ---- live tickets

  pub kept_alike : (one_after one other_after other : Board S (List Row)) → one_after ≡ one → other_after ≡ other → HaveSamePieces same one other → HaveSamePieces same one_after other_after
  kept_alike one_after one other_after other first second pieces = subst (λ b. HaveSamePieces same b other_after) (sym first) (subst (λ b. HaveSamePieces same one b) (sym second) pieces)

  pub marked_alike : (key : PieceKey) (live : Option ℕ) (one other : Board S (List Row)) → HaveSamePieces same one other
      → HaveSamePieces same (with_pieces one (change key (with_live live) one.pieces)) (with_pieces other (change key (with_live live) other.pieces))
  marked_alike key live one other pieces = changed_alike same key (with_live live) (with_live live) (λ x y h. record { live = refl; result = h.result }) one.pieces other.pieces pieces

  -- If a ticket is a window's live one, the window has none any more.
  abbrev pub UnmarksAt : Board S (List Row) → PieceKey → ℕ → Board S (List Row) → Type 0
  UnmarksAt old key ticket new = ((live_of (piece_at key old) ≡ Some ticket) × (new ≡ with_pieces old (change key (with_live None) old.pieces))) ⊎ ((live_of (piece_at key old) ≡ Some ticket → ⊥) × (new ≡ old))

  pub unmarked_alike : (one one_after other other_after : Board S (List Row)) (key : PieceKey) (ticket : ℕ) → HaveSamePieces same one other → UnmarksAt one key ticket one_after → UnmarksAt other key ticket other_after
      → HaveSamePieces same one_after other_after
  unmarked_alike one one_after other other_after key ticket pieces (inl a) (inl b) =
      kept_alike one_after (with_pieces one (change key (with_live None) one.pieces)) other_after (with_pieces other (change key (with_live None) other.pieces)) a.1 b.1 (marked_alike key None one other pieces)
  unmarked_alike one one_after other other_after key ticket pieces (inl a) (inr b) = absurd (b.0 (sym (lives_alike same (piece_at key one) (piece_at key other) (pieces key)) ∙ a.0))
  unmarked_alike one one_after other other_after key ticket pieces (inr a) (inl b) = absurd (a.0 (lives_alike same (piece_at key one) (piece_at key other) (pieces key) ∙ b.0))
  unmarked_alike one one_after other other_after key ticket pieces (inr a) (inr b) = kept_alike one_after one other_after other a.1 b.1 pieces

  -- Where a window is wanted, it gets the result; else the one that it has stays.
  abbrev pub HandsInAt : Board S (List Row) → PieceKey → Pass S (List Row) → Board S (List Row) → Type 0
  HandsInAt old key result new =
      (IsWantedAt same old key × (new ≡ with_pieces old (change key (with_checked result) old.pieces))) ⊎ ((IsWantedAt same old key → ⊥) × (new ≡ with_pieces old (change key (with_live None) old.pieces)))

  -- ---- windows that are wanted

  -- What stands before two pieces shows the same.
  abbrev pub LeftAlike : Option (ℕ × Option S) → Option (ℕ × Option S) → Type 0
  LeftAlike l m = AreBoth (λ (x : ℕ × Option S) (y : ℕ × Option S). (x.0 ≡ y.0) × AreBoth same x.1 y.1) l m

  left_alike : (e f : PieceKey × Piece S (List Row)) → e.0 ≡ f.0 → SamePiece same e.1 f.1 → LeftAlike (left_by e.0 e.1) (left_by f.0 f.1)
  left_alike e f at piece = (ap (λ (k : PieceKey). k.owner) at, exits_alike same e.1.result f.1.result piece.result)

  -- The first piece of a kind, and whether a piece is of it, where another kind says the same of pieces that show the same.
  module _ (P Q : Option (ℕ × Option S) → PieceKey → Piece S (List Row) → Type 0)
      (there : (l m : Option (ℕ × Option S)) (k : PieceKey) (p q : Piece S (List Row)) → LeftAlike l m → SamePiece same p q → P l k p → Q m k q)
      (again : (l m : Option (ℕ × Option S)) (k : PieceKey) (p q : Piece S (List Row)) → LeftAlike l m → SamePiece same p q → Q m k q → P l k p) where
    pub first_there : (l m : Option (ℕ × Option S)) → LeftAlike l m → (es fs : List (PieceKey × Piece S (List Row))) → Listed same es fs → (found : Option PieceKey) → IsFirst P l es found → IsFirst Q m fs found
    first_there l m left [] [] all found first = first
    first_there l m left [] (f ∷ fs) all found first = absurd all
    first_there l m left (e ∷ es) [] all found first = absurd all
    first_there l m left (e ∷ es) (f ∷ fs) all found (inl first) = inl (subst (λ k. Q m k f.1) all.0 (there l m e.0 e.1 f.1 left all.1 first.0), first.1 ∙ ap Some all.0)
    first_there l m left (e ∷ es) (f ∷ fs) all found (inr first) =
        inr ((λ h. first.0 (again l m e.0 e.1 f.1 left all.1 (subst (λ k. Q m k f.1) (sym all.0) h))), first_there (left_by e.0 e.1) (left_by f.0 f.1) (left_alike e f all.0 all.1) es fs all.2 found first.1)

    at_there : (l m : Option (ℕ × Option S)) → LeftAlike l m → (es fs : List (PieceKey × Piece S (List Row))) → Listed same es fs → (key : PieceKey) → IsAt P l es key → IsAt Q m fs key
    at_there l m left [] fs all key at = absurd at
    at_there l m left (e ∷ es) [] all key at = absurd all
    at_there l m left (e ∷ es) (f ∷ fs) all key (inl at) = inl (sym all.0 ∙ at.0, subst (λ k. Q m k f.1) all.0 (there l m e.0 e.1 f.1 left all.1 at.1))
    at_there l m left (e ∷ es) (f ∷ fs) all key (inr at) = inr ((λ h. at.0 (all.0 ∙ h)), at_there (left_by e.0 e.1) (left_by f.0 f.1) (left_alike e f all.0 all.1) es fs all.2 key at.1)

    at_again : (l m : Option (ℕ × Option S)) → LeftAlike l m → (es fs : List (PieceKey × Piece S (List Row))) → Listed same es fs → (key : PieceKey) → IsAt Q m fs key → IsAt P l es key
    at_again l m left es [] all key at = absurd at
    at_again l m left [] (f ∷ fs) all key at = absurd all
    at_again l m left (e ∷ es) (f ∷ fs) all key (inl at) = inl (all.0 ∙ at.0, again l m e.0 e.1 f.1 left all.1 (subst (λ k. Q m k f.1) (sym all.0) at.1))
    at_again l m left (e ∷ es) (f ∷ fs) all key (inr at) = inr ((λ h. at.0 (sym all.0 ∙ h)), at_again (left_by e.0 e.1) (left_by f.0 f.1) (left_alike e f all.0 all.1) es fs all.2 key at.1)

module _ {S : Type 0} (same : S → S → Type 0) (back : (x y : S) → same x y → same y x) (then : (x y z : S) → same x y → same y z → same x z) where
  good_there : (x y : Option S) (r q : Option (Pass S (List Row))) → AreBoth same x y → AreBoth (SamePass same) r q → IsGood same x r → IsGood same y q
  good_there x y None q states results good = absurd good
  good_there x y (Some r) None states results good = absurd results
  good_there None None (Some r) (Some q) states results good = good
  good_there None (Some t) (Some r) (Some q) states results good = absurd states
  good_there (Some s) None (Some r) (Some q) states results good = absurd states
  good_there (Some s) (Some t) (Some r) (Some q) states results good = then q.entry r.entry t (back r.entry q.entry results.entry) (then r.entry s t good states)

  good_again : (x y : Option S) (r q : Option (Pass S (List Row))) → AreBoth same x y → AreBoth (SamePass same) r q → IsGood same y q → IsGood same x r
  good_again x y r None states results good = absurd good
  good_again x y None (Some q) states results good = absurd results
  good_again None None (Some r) (Some q) states results good = good
  good_again None (Some t) (Some r) (Some q) states results good = absurd states
  good_again (Some s) None (Some r) (Some q) states results good = absurd states
  good_again (Some s) (Some t) (Some r) (Some q) states results good = then r.entry q.entry s results.entry (then q.entry t s good (back s t states))

  module _ (one other : List (ℕ × S)) (opens : OpenAlike same one other) where
    exit_alike : (l m : Option (ℕ × Option S)) → LeftAlike same l m → (o : ℕ) → AreBoth same (exit_before one l o) (exit_before other m o)
    exit_alike None None left o = opens o
    exit_alike None (Some m) left o = absurd left
    exit_alike (Some l) None left o = absurd left
    exit_alike (Some l) (Some m) left o = subst (λ n. AreBoth same (cond (l.0 == o) l.1 (opening_of o one)) (cond (n == o) m.1 (opening_of o other))) left.0 (go (l.0 == o))
      where
        go : (b : Bool) → AreBoth same (cond b l.1 (opening_of o one)) (cond b m.1 (opening_of o other))
        go true = left.1
        go false = opens o

    wanted_there : (l m : Option (ℕ × Option S)) (k : PieceKey) (p q : Piece S (List Row)) → LeftAlike same l m → SamePiece same p q → IsWanted same one l k p → IsWanted same other m k q
    wanted_there l m k p q left piece wanted good = wanted (good_again (exit_before one l k.owner) (exit_before other m k.owner) p.result q.result (exit_alike l m left k.owner) piece.result good)

    wanted_again : (l m : Option (ℕ × Option S)) (k : PieceKey) (p q : Piece S (List Row)) → LeftAlike same l m → SamePiece same p q → IsWanted same other m k q → IsWanted same one l k p
    wanted_again l m k p q left piece wanted good = wanted (good_there (exit_before one l k.owner) (exit_before other m k.owner) p.result q.result (exit_alike l m left k.owner) piece.result good)

    pub free_there : (l m : Option (ℕ × Option S)) (k : PieceKey) (p q : Piece S (List Row)) → LeftAlike same l m → SamePiece same p q → IsFree same one l k p → IsFree same other m k q
    free_there l m k p q left piece free = (wanted_there l m k p q left piece free.0, sym piece.live ∙ free.1)

    pub free_again : (l m : Option (ℕ × Option S)) (k : PieceKey) (p q : Piece S (List Row)) → LeftAlike same l m → SamePiece same p q → IsFree same other m k q → IsFree same one l k p
    free_again l m k p q left piece free = (wanted_again l m k p q left piece free.0, piece.live ∙ free.1)

  module _ (one other : Board S (List Row)) (opens : OpenAlike same one.openings other.openings) (all : Listed same one.pieces other.pieces) where
    pub first_free_there : (found : Option PieceKey) → IsFirstFree same one found → IsFirstFree same other found
    first_free_there found first =
        first_there same (IsFree same one.openings) (IsFree same other.openings) (free_there one.openings other.openings opens) (free_again one.openings other.openings opens) None None tt one.pieces other.pieces all found first

    at_wanted : (key : PieceKey) → IsWantedAt same one key → IsWantedAt same other key
    at_wanted key at =
        at_there same (IsWanted same one.openings) (IsWanted same other.openings) (wanted_there one.openings other.openings opens) (wanted_again one.openings other.openings opens) None None tt one.pieces other.pieces all key at

    wanted_at : (key : PieceKey) → IsWantedAt same other key → IsWantedAt same one key
    wanted_at key at =
        at_again same (IsWanted same one.openings) (IsWanted same other.openings) (wanted_there one.openings other.openings opens) (wanted_again one.openings other.openings opens) None None tt one.pieces other.pieces all key at

    pub handed_alike : (one_after other_after : Board S (List Row)) (key : PieceKey) (r q : Pass S (List Row)) → SamePass same r q → HaveSamePieces same one other → HandsInAt same one key r one_after → HandsInAt same other key q other_after
        → HaveSamePieces same one_after other_after
    handed_alike one_after other_after key r q results pieces (inl a) (inl b) =
        kept_alike same one_after (with_pieces one (change key (with_checked r) one.pieces)) other_after (with_pieces other (change key (with_checked q) other.pieces)) a.1 b.1
        (changed_alike same key (with_checked r) (with_checked q) (λ x y h. record { live = refl; result = results }) one.pieces other.pieces pieces)
    handed_alike one_after other_after key r q results pieces (inl a) (inr b) = absurd (b.0 (at_wanted key a.0))
    handed_alike one_after other_after key r q results pieces (inr a) (inl b) = absurd (a.0 (wanted_at key b.0))
    handed_alike one_after other_after key r q results pieces (inr a) (inr b) =
        kept_alike same one_after (with_pieces one (change key (with_live None) one.pieces)) other_after (with_pieces other (change key (with_live None) other.pieces)) a.1 b.1 (marked_alike same key None one other pieces)
