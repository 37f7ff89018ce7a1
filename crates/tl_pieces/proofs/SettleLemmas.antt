-- What exact marks say of the whole.
use Rattle.std.specs.Prelude.{◌⊎◌, is_none, is_some, ⊤}
use Rattle.std.specs.Ordering.{is_eq, is_le}
use Rattle.std.specs.BTreeMap.{is_at}
use Rattle.tl_pieces.specs.Keys.{value_at, key_cmp, from, IsNotBefore}
use Rattle.tl_pieces.specs.Slots.{wanted_of, passes, some_wanted, first}
use Rattle.tl_pieces.specs.Pieces.{IsAt, Pass, Piece, exit_of, opening_of, exit_before, IsGood, Follows, IsWanted, IsFree, ChainsFrom, NoneIsWanted, IsFirst}
use Rattle.tl_pieces.proofs.KeyLemmas.{key_exact, key_self}
use Rattle.std.proofs.Common.{◌≡◌, ℕ, ◌==◌, Bool, true, false, not, ◌||◌, ◌&&◌, cond, List, [], ◌∷◌, refl, sym, ap, ◌∙◌, Option, Some, None, inl, inr, true≢false}
use Rattle.std.specs.Bool.{Decides}
use Rattle.tl_pieces.specs.declared.key.PieceKey.{PieceKey}
use Rattle.tl_pieces.specs.declared.slot.Slot.{Slot}
use Rattle.tl_pieces.specs.declared.slot.Mark.{Mark}
use Rattle.tl_pieces.specs.declared.slot.Mark.TheVariants as mark
use Rattle.std.specs.List.{AllByRecursion}
use Rattle.tl_pieces.specs.Marks.{piece_of, shown, passed, left, IsExact, IsMarked}

pub decides_not : {P : Type 0} (r b : Bool) → r ≡ not b → (b ≡ false → P) → (P → b ≡ false) → Decides r P
decides_not r true is f g = (λ h. absurd (true≢false (sym h ∙ is)), λ p. absurd (true≢false (g p)))
decides_not r false is f g = (λ h. f refl, λ p. is)

off : (b : Bool) → not b ≡ true → b ≡ false
off true h = sym h
off false h = refl

on_first : (a b : Bool) → (a || b) ≡ false → a ≡ false
on_first true b h = h
on_first false b h = refl

on_rest : (a b : Bool) → (a || b) ≡ false → b ≡ false
on_rest true b h = cc
on_rest false b h = h

none_of_both : (a b : Bool) → a ≡ false → b ≡ false → (a || b) ≡ false
none_of_both true b h g = h
none_of_both false b h g = g

no_ticket : (o : Option ℕ) → is_none o ≡ true → o ≡ None
no_ticket None h = refl
no_ticket (Some t) h = cc

both : (a b : Bool) → (a && b) ≡ true → (a ≡ true) × (b ≡ true)
both true b h = (refl, h)
both false b h = cc

module _ {S : Type 0} where
  owned : (x : Option S) → is_some x ≡ true → (s : S) × (x ≡ Some s)
  owned None h = cc
  owned (Some s) h = (s, refl)

  -- there is no piece before, or it has an exit
  abbrev IsThere : Option S → Type 0
  IsThere None = ⊥
  IsThere (Some s) = ⊤

  abbrev HasExit : Option (ℕ × Option S) → Type 0
  HasExit None = ⊤
  HasExit (Some l) = IsThere l.1

  there : (o : Option S) → IsThere o → (s : S) × (o ≡ Some s)
  there None h = absurd h
  there (Some s) h = (s, refl)

  exit_there : (os : List (ℕ × S)) (l : Option (ℕ × Option S)) (o : ℕ) → HasExit l → is_some (opening_of o os) ≡ true → (s : S) × (exit_before os l o ≡ Some s)
  exit_there os None o h low = owned (opening_of o os) low
  exit_there os (Some l) o h low = elim (l.0 == o) as (λ b. (s : S) × (cond b l.1 (opening_of o os) ≡ Some s)) [ true ↦ there l.1 h | false ↦ owned (opening_of o os) low ]

module _ {S R : Type 0} where
  module _ (same : S → S → Type 0) (os : List (ℕ × S)) where
    good_there : (b : Option S) (r : Option (Pass S R)) → IsGood same b r → IsThere (exit_of r)
    good_there b None h = absurd h
    good_there None (Some r) h = tt
    good_there (Some s) (Some r) h = tt

    good_follows : (b : Option S) (r : Option (Pass S R)) → (s : S) × (b ≡ Some s) → IsGood same b r → Follows same b r
    good_follows None r p h = cc
    good_follows (Some s) r p h = h

    follows_good : (b : Option S) (r : Option (Pass S R)) → Follows same b r → IsGood same b r
    follows_good None r h = absurd h
    follows_good (Some s) r h = h

    good : (l : Option (ℕ × Option S)) (k : PieceKey) (s : Slot S R) → IsExact same os l k s → s.wanted ≡ false → IsGood same (exit_before os l k.owner) (passed s.result)
    good l k s m h = m.mark.0 (ap not h)

    wanted : (l : Option (ℕ × Option S)) (k : PieceKey) (s : Slot S R) → IsExact same os l k s → s.wanted ≡ true → IsWanted same os l k (piece_of s)
    wanted l k s m h g = true≢false (sym (m.mark.1 g) ∙ ap not h)

    pub settled_from : (l : Option (ℕ × Option S)) (es : List (PieceKey × Slot S R)) → HasExit l → IsMarked same os l es → some_wanted es ≡ false → ChainsFrom same os l (shown es)
    settled_from l [] x m h = tt
    settled_from l (e ∷ es) x m h =
        let g : IsGood same (exit_before os l e.0.owner) (passed e.1.result) = good l e.0 e.1 m.0 (on_first e.1.wanted (some_wanted es) h) in (
          good_follows (exit_before os l e.0.owner) (passed e.1.result) (exit_there os l e.0.owner x m.0.owner) g,
          settled_from (left e) es (good_there (exit_before os l e.0.owner) (passed e.1.result) g) m.1 (on_rest e.1.wanted (some_wanted es) h),
        )

    pub unwanted_from : (l : Option (ℕ × Option S)) (es : List (PieceKey × Slot S R)) → IsMarked same os l es → ChainsFrom same os l (shown es) → some_wanted es ≡ false
    unwanted_from l [] m h = refl
    unwanted_from l (e ∷ es) m h =
        none_of_both e.1.wanted (some_wanted es) (off e.1.wanted (m.0.mark.1 (follows_good (exit_before os l e.0.owner) (passed e.1.result) h.0))) (unwanted_from (left e) es m.1 h.1)

    pub none_wanted : (l : Option (ℕ × Option S)) (es : List (PieceKey × Slot S R)) → IsMarked same os l es → some_wanted es ≡ false → NoneIsWanted same os l (shown es)
    none_wanted l [] m h = tt
    none_wanted l (e ∷ es) m h = (λ w. w (good l e.0 e.1 m.0 (on_first e.1.wanted (some_wanted es) h)), none_wanted (left e) es m.1 (on_rest e.1.wanted (some_wanted es) h))

    pub none_marked : (l : Option (ℕ × Option S)) (es : List (PieceKey × Slot S R)) → IsMarked same os l es → NoneIsWanted same os l (shown es) → some_wanted es ≡ false
    none_marked l [] m h = refl
    none_marked l (e ∷ es) m h =
        none_of_both e.1.wanted (some_wanted es) (elim e.1.wanted as (λ b. e.1.wanted ≡ b → b ≡ false) [ true ↦ λ t. absurd (h.0 (wanted l e.0 e.1 m.0 t)) | false ↦ λ _. refl ] refl) (none_marked (left e) es m.1 h.1)

    -- ---- the first with a mark

    -- what a mark says of a piece
    abbrev pub Means : Mark → Option (ℕ × Option S) → PieceKey → Piece S R → Type 0
    Means mark.Wanted = IsWanted same os
    Means mark.Free = IsFree same os

    means : (m : Mark) (l : Option (ℕ × Option S)) (k : PieceKey) (s : Slot S R) → IsExact same os l k s → passes m s ≡ true → Means m l k (piece_of s)
    means mark.Wanted l k s is h = wanted l k s is h
    means mark.Free l k s is h = let two = both s.wanted (is_none s.live) h in (wanted l k s is two.0, no_ticket s.live two.1)

    means_not : (m : Mark) (l : Option (ℕ × Option S)) (k : PieceKey) (s : Slot S R) → IsExact same os l k s → passes m s ≡ false → Means m l k (piece_of s) → ⊥
    means_not mark.Wanted l k s is h f = f (good l k s is h)
    means_not mark.Free l k s is h f =
        elim s.wanted as (λ b. s.wanted ≡ b → (b && is_none s.live) ≡ false → ⊥) [
          | true ↦ λ t g. true≢false (sym (ap is_none f.1) ∙ g)
          | false ↦ λ t g. f.0 (good l k s is t)
        ] refl h

    pub first_marked : (m : Mark) (l : Option (ℕ × Option S)) (es : List (PieceKey × Slot S R)) → IsMarked same os l es → IsFirst (Means m) l (shown es) (first m es)
    first_marked m l [] is = refl
    first_marked m l (e ∷ es) is =
        elim (passes m e.1) as (λ b. passes m e.1 ≡ b → IsFirst (Means m) l (shown (e ∷ es)) (cond b (Some e.0) (first m es))) [
          | true ↦ λ h. inl (means m l e.0 e.1 is.0 h, refl)
          | false ↦ λ h. inr (means_not m l e.0 e.1 is.0 h, first_marked m (left e) es is.1)
        ] refl

    -- the same from a key on
    pub next_marked : (from_key : PieceKey) (m : Mark) (l : Option (ℕ × Option S)) (es : List (PieceKey × Slot S R)) → IsMarked same os l es → IsFirst (λ l k p. IsNotBefore from_key k × Means m l k p) l (shown es) (first m (from from_key es))
    next_marked q m l [] is = refl
    next_marked q m l (e ∷ es) is =
        elim (is_le (key_cmp q e.0)) as (λ b. is_le (key_cmp q e.0) ≡ b → IsFirst (λ l k p. IsNotBefore q k × Means m l k p) l (shown (e ∷ es)) (first m (cond (b && not false) (e ∷ from q es) (from q es)))) [
          | true ↦ λ low.
              elim (passes m e.1) as (λ b. passes m e.1 ≡ b → IsFirst (λ l k p. IsNotBefore q k × Means m l k p) l (shown (e ∷ es)) (cond b (Some e.0) (first m (from q es)))) [
                | true ↦ λ h. inl ((low, means m l e.0 e.1 is.0 h), refl)
                | false ↦ λ h. inr (λ both. means_not m l e.0 e.1 is.0 h both.1, next_marked q m (left e) es is.1)
              ] refl
          | false ↦ λ high. inr (λ both. true≢false (sym both.0 ∙ high), next_marked q m (left e) es is.1)
        ] refl

    -- each piece is of an owner
    pub owned_marked : (l : Option (ℕ × Option S)) (es : List (PieceKey × Slot S R)) → IsMarked same os l es → AllByRecursion (λ e. is_some (opening_of e.0.owner os) ≡ true) (shown es)
    owned_marked l [] is = tt
    owned_marked l (e ∷ es) is = (is.0.owner, owned_marked (left e) es is.1)

    -- the mark of one piece
    pub wanted_at : (k : PieceKey) (l : Option (ℕ × Option S)) (es : List (PieceKey × Slot S R)) → IsMarked same os l es → Decides (wanted_of (value_at k es)) (IsAt (IsWanted same os) l (shown es) k)
    wanted_at k l [] m = (λ h. absurd (true≢false (sym h)), λ h. absurd h)
    wanted_at k l (e ∷ es) m =
        elim (is_at (key_cmp k) e.0) as (λ b. is_at (key_cmp k) e.0 ≡ b → Decides (wanted_of (cond b (Some e.1) (value_at k es))) (IsAt (IsWanted same os) l (shown (e ∷ es)) k)) [
          | true ↦ λ t. let is : e.0 ≡ k = sym (key_exact k e.0 t) in (λ h. inl (is, wanted l e.0 e.1 m.0 h), here is)
          | false ↦ λ f. let apart : e.0 ≡ k → ⊥ = λ is. true≢false (sym (ap (λ q. is_at (key_cmp k) q) is ∙ ap is_eq (key_self k)) ∙ f) in
              (λ h. inr (apart, (wanted_at k (left e) es m.1).0 h), there apart (wanted_at k (left e) es m.1).1)
        ] refl
      where
        here : e.0 ≡ k → ((e.0 ≡ k) × IsWanted same os l e.0 (piece_of e.1)) ⊎ ((e.0 ≡ k → ⊥) × IsAt (IsWanted same os) (left e) (shown es) k) → e.1.wanted ≡ true
        here is (inl h) = elim e.1.wanted as (λ b. e.1.wanted ≡ b → b ≡ true) [ true ↦ λ _. refl | false ↦ λ f. absurd (h.1 (good l e.0 e.1 m.0 f)) ] refl
        here is (inr h) = absurd (h.0 is)

        there : (e.0 ≡ k → ⊥) → (IsAt (IsWanted same os) (left e) (shown es) k → wanted_of (value_at k es) ≡ true)
            → ((e.0 ≡ k) × IsWanted same os l e.0 (piece_of e.1)) ⊎ ((e.0 ≡ k → ⊥) × IsAt (IsWanted same os) (left e) (shown es) k) → wanted_of (value_at k es) ≡ true
        there apart go (inl h) = absurd (apart h.0)
        there apart go (inr h) = go h.1
