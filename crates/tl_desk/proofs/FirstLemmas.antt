-- The first window of an owner of some kind, found by passing owners over.
use Rattle.std.proofs.Common.{◌≡◌, ℕ, ◌+◌, ◌-◌, ◌≤◌, ◌<◌, ◌==◌, inl, inr, true, false, cond, Bool, List, [], ◌∷◌, Option, Some, None, refl, sym, ap, subst, ◌∙◌, arith, Equal, Ordering, Less, Greater, eqb-true}
use Rattle.std.proofs.lemmas.Bool.Decides.{nat_tests}
use Rattle.std.proofs.lemmas.Map.Keys.{sorted_head, sorted_tail}
use Rattle.std.specs.BTreeMap.{is_at}
use Rattle.std.specs.List.{AllByRecursion}
use Rattle.std.specs.Option.{IfSome, option_map_or}
use Rattle.std.specs.Map.{keys_of}
use Rattle.std.specs.Ordering.{nat_cmp, ordering_then, is_le}
use Rattle.tl_pieces.proofs.KeyLemmas.{key_exact, owner_ge}
use Rattle.tl_pieces.specs.declared.key.PieceKey.{PieceKey}
use Rattle.tl_pieces.specs.Keys.{key_cmp, change, Rises, IsNotBefore, start_of}
use Rattle.tl_pieces.specs.Pieces.{Piece, Pass, IsFirst, IsWanted, IsGood, opening_of, exit_of, exit_before, left_by}
use Rattle.tl_board.specs.Windows.{with_checked}

-- ---- keys from a first owner on

pub from_owner : (o : ℕ) (k : PieceKey) → o ≤ k.owner → IsNotBefore (start_of o) k
from_owner o k low = go (nat_cmp o k.owner) refl
  where
    least : is_le (nat_cmp 0 k.window) ≡ true
    least = grind (arith, nat_tests)

    go : (x : Ordering) → nat_cmp o k.owner ≡ x → is_le (ordering_then (nat_cmp o k.owner) (nat_cmp 0 k.window)) ≡ true
    go Less is = ap (λ x. is_le (ordering_then x (nat_cmp 0 k.window))) is
    go Equal is = ap (λ x. is_le (ordering_then x (nat_cmp 0 k.window))) is ∙ least
    go Greater is = absurd (let above : k.owner < o = grind (arith, nat_tests) in omega (arith, above, low))

pub owner_from : (o : ℕ) (k : PieceKey) → IsNotBefore (start_of o) k → o ≤ k.owner
owner_from o k h = go (nat_cmp o k.owner) refl
  where
    go : (x : Ordering) → nat_cmp o k.owner ≡ x → o ≤ k.owner
    go Less is = grind (arith, nat_tests)
    go Equal is = grind (arith, nat_tests)
    go Greater is = absurd (let never : false ≡ true = sym (ap (λ x. is_le (ordering_then x (nat_cmp 0 k.window))) is) ∙ h in cc)

module _ {S R : Type 0} (H : ℕ → Type 0) (F : Option (ℕ × Option S) → PieceKey → Piece S R → Type 0) where
  -- Each piece of such an owner of which F is true stands from the first key of an owner on.
  abbrev pub AreFrom : ℕ → Option (ℕ × Option S) → List (PieceKey × Piece S R) → Type 0
  AreFrom o l [] = Unit {0}
  AreFrom o l (e ∷ es) = (H e.0.owner → F l e.0 e.1 → o ≤ e.0.owner) × AreFrom o (left_by e.0 e.1) es

  -- The first piece from an owner on of which F is true.
  abbrev pub IsFrom : ℕ → Option (ℕ × Option S) → List (PieceKey × Piece S R) → Option PieceKey → Type 0
  IsFrom o l es found = IsFirst (λ l k p. IsNotBefore (start_of o) k × F l k p) l es found

  pub begin_from : (l : Option (ℕ × Option S)) (es : List (PieceKey × Piece S R)) → AreFrom 0 l es
  begin_from l [] = tt
  begin_from l (e ∷ es) = (λ h f. (omega arith), begin_from (left_by e.0 e.1) es)

  pub begin_first : (l : Option (ℕ × Option S)) (es : List (PieceKey × Piece S R)) (found : Option PieceKey) → IsFirst F l es found → IsFrom 0 l es found
  begin_first l [] found h = h
  begin_first l (e ∷ es) found (inl h) = inl ((from_owner 0 e.0 (omega arith), h.0), h.1)
  begin_first l (e ∷ es) found (inr h) = inr ((λ g. h.0 g.1), begin_first (left_by e.0 e.1) es found h.1)

  later_all : (k : PieceKey) (l : Option (ℕ × Option S)) (es : List (PieceKey × Piece S R)) → AllByRecursion (λ q. key_cmp k q ≡ Less) (keys_of es) → (H k.owner → ⊥) → AreFrom (k.owner + 1) l es
  later_all k l [] a not = tt
  later_all k l (e ∷ es) a not = (λ h f. past h, later_all k (left_by e.0 e.1) es a.1 not)
    where
      past : H e.0.owner → k.owner + 1 ≤ e.0.owner
      past h =
          let low : k.owner ≤ e.0.owner = owner_ge e.0 k a.0 in
          let differ : k.owner ≡ e.0.owner → ⊥ = (λ same. not (subst H (sym same) h)) in
          go (k.owner == e.0.owner) refl low differ
        where
          go : (b : Bool) → (k.owner == e.0.owner) ≡ b → k.owner ≤ e.0.owner → (k.owner ≡ e.0.owner → ⊥) → k.owner + 1 ≤ e.0.owner
          go true t low differ = absurd (differ (eqb-true k.owner e.0.owner t))
          go false t low differ = grind (arith, nat_tests)

  -- The owner of the first one is none of them: all of them come after it.
  pub pass_over : (o : ℕ) (k : PieceKey) (l : Option (ℕ × Option S)) (es : List (PieceKey × Piece S R)) → Rises es → AreFrom o l es → IsFrom o l es (Some k) → (H k.owner → ⊥) → AreFrom (k.owner + 1) l es
  pass_over o k l [] s from first not = tt
  pass_over o k l (e ∷ es) s from (inl first) not =
      let is : e.0 ≡ k = (let both : Some k ≡ Some e.0 = first.1 in cc) in (
        (λ h f. absurd (not (subst (λ (x : PieceKey). H x.owner) is h))),
        later_all k (left_by e.0 e.1) es (subst (λ (x : PieceKey). AllByRecursion (λ q. key_cmp x q ≡ Less) (keys_of es)) is (sorted_head key_cmp e.0 (keys_of es) s)) not,
      )
  pass_over o k l (e ∷ es) s from (inr first) not = (
    (λ h f. absurd (first.0 (from_owner o e.0 (from.0 h f), f))),
    pass_over o k (left_by e.0 e.1) es (sorted_tail key_cmp e.0 (keys_of es) s) from.1 first.1 not,
  )

  -- The first one of all is the first of such an owner.
  pub first_such : (o : ℕ) (found : Option PieceKey) (l : Option (ℕ × Option S)) (es : List (PieceKey × Piece S R)) → AreFrom o l es → IsFrom o l es found → ((k : PieceKey) → found ≡ Some k → H k.owner)
      → IsFirst (λ l k p. H k.owner × F l k p) l es found
  first_such o found l [] from first such = first
  first_such o found l (e ∷ es) from (inl first) such = inl ((such e.0 first.1, first.0.1), first.1)
  first_such o found l (e ∷ es) from (inr first) such = inr ((λ g. first.0 (from_owner o e.0 (from.0 g.0 g.1), g.1)), first_such o found (left_by e.0 e.1) es from.1 first.1 such)

  -- There is none where all owners have been passed over.
  pub none_such : (o : ℕ) (l : Option (ℕ × Option S)) (es : List (PieceKey × Piece S R)) → AreFrom o l es → ((n : ℕ) → H n → n < o) → IsFirst (λ l k p. H k.owner × F l k p) l es None
  none_such o l [] from below = refl
  none_such o l (e ∷ es) from below = inr (
    (λ g. let low : o ≤ e.0.owner = from.0 g.0 g.1 in let high : e.0.owner < o = below e.0.owner g.0 in omega (arith, low, high)),
    none_such o (left_by e.0 e.1) es from.1 below,
  )

  -- The next one is of an owner from there on.
  pub next_owner : (o : ℕ) (found : Option PieceKey) (l : Option (ℕ × Option S)) (es : List (PieceKey × Piece S R)) → IsFrom o l es found → IfSome found (λ k. o ≤ k.owner)
  next_owner o None l es first = tt
  next_owner o (Some k) l [] first = cc
  next_owner o (Some k) l (e ∷ es) (inl first) = let is : e.0 ≡ k = (let both : Some k ≡ Some e.0 = first.1 in cc) in subst (λ (x : PieceKey). o ≤ x.owner) is (owner_from o e.0 first.0.0)
  next_owner o (Some k) l (e ∷ es) (inr first) = next_owner o (Some k) (left_by e.0 e.1) es first.1

  -- So many owners are left.
  pub fewer_left : (found next : Option PieceKey) (k : PieceKey) (l : Option (ℕ × Option S)) (es : List (PieceKey × Piece S R)) → found ≡ Some k → IfSome found (λ key. key.owner < 4294967296) → IsFrom (k.owner + 1) l es next
      → option_map_or (λ (key : PieceKey). 4294967296 - key.owner) next 0 < option_map_or (λ (key : PieceKey). 4294967296 - key.owner) found 0
  fewer_left found next k l es is fits first =
      subst (λ o. option_map_or (λ (key : PieceKey). 4294967296 - key.owner) next 0 < option_map_or (λ (key : PieceKey). 4294967296 - key.owner) o 0) (sym is)
      (go next (next_owner (k.owner + 1) next l es first))
    where
      below : k.owner < 4294967296
      below = subst (λ o. IfSome o (λ (key : PieceKey). key.owner < 4294967296)) is fits

      go : (o : Option PieceKey) → IfSome o (λ key. k.owner + 1 ≤ key.owner) → option_map_or (λ (key : PieceKey). 4294967296 - key.owner) o 0 < 4294967296 - k.owner
      go None h = omega (arith, below)
      go (Some q) h = let low : k.owner + 1 ≤ q.owner = h in omega (arith, below, low)

-- ---- windows of other owners stay

-- What stands before a piece of such an owner is the same.
abbrev pub Alike : {S : Type 0} → List (ℕ × S) → (ℕ → Type 0) → Option (ℕ × Option S) → Option (ℕ × Option S) → Type 0
Alike os H one two = (o : ℕ) → H o → exit_before os two o ≡ exit_before os one o

module _ {S R : Type 0} (same : S → S → Type 0) (os : List (ℕ × S)) (H : ℕ → Type 0) where
  -- It is of such an owner, and wanted.
  abbrev pub WantedOf : Option (ℕ × Option S) → PieceKey → Piece S R → Type 0
  WantedOf l k p = H k.owner × IsWanted same os l k p

  still_not : (one two : Option (ℕ × Option S)) (e : PieceKey × Piece S R) → Alike os H one two → (WantedOf one e.0 e.1 → ⊥) → WantedOf two e.0 e.1 → ⊥
  still_not one two e alike not g = not (g.0, (λ good. g.1 (subst (λ b. IsGood same b e.1.result) (sym (alike e.0.owner g.0)) good)))

  none_alike : (one two : Option (ℕ × Option S)) (es : List (PieceKey × Piece S R)) → Alike os H one two → IsFirst WantedOf one es None → IsFirst WantedOf two es None
  none_alike one two [] alike h = h
  none_alike one two (e ∷ es) alike (inl h) = absurd (let never : None ≡ Some e.0 = h.1 in cc)
  none_alike one two (e ∷ es) alike (inr h) = inr (still_not one two e alike h.0, h.1)

  module _ (k : PieceKey) (r : Pass S R) (not : H k.owner → ⊥) where
    behind : (e : PieceKey × Piece S R) → k ≡ e.0 → Alike os H (left_by e.0 e.1) (left_by e.0 (with_checked r e.1))
    behind e is o h = ap (λ b. cond b (Some r.exit) (opening_of o os)) other ∙ sym (ap (λ b. cond b (exit_of e.1.result) (opening_of o os)) other)
      where
        other : (e.0.owner == o) ≡ false
        other = go (e.0.owner == o) refl
          where
            go : (b : Bool) → (e.0.owner == o) ≡ b → (e.0.owner == o) ≡ false
            go true t = absurd (not (subst H (sym (ap (λ (x : PieceKey). x.owner) is ∙ eqb-true e.0.owner o t)) h))
            go false t = t

    -- Where a window of another owner is checked, none of such an owner comes to be wanted.
    pub none_still : (one two : Option (ℕ × Option S)) (es : List (PieceKey × Piece S R)) → Alike os H one two → IsFirst WantedOf one es None → IsFirst WantedOf two (change k (with_checked r) es) None
    none_still one two [] alike h = h
    none_still one two (e ∷ es) alike (inl h) = absurd (let never : None ≡ Some e.0 = h.1 in cc)
    none_still one two (e ∷ es) alike (inr h) = elim (is_at (key_cmp k) e.0) as (λ b. is_at (key_cmp k) e.0 ≡ b → IsFirst WantedOf two (cond b ((e.0, with_checked r e.1) ∷ es) (e ∷ change k (with_checked r) es)) None) [
      | true ↦ λ at. (let is : k ≡ e.0 = key_exact k e.0 at in inr (
        (λ g. not (subst (λ (x : PieceKey). H x.owner) (sym is) g.0)),
        none_alike (left_by e.0 e.1) (left_by e.0 (with_checked r e.1)) es (behind e is) h.1,
      ))
      | false ↦ λ at. inr (still_not one two e alike h.0, none_still (left_by e.0 e.1) (left_by e.0 e.1) es (λ o own. refl) h.1)
    ] refl

    pub none_checked : (es : List (PieceKey × Piece S R)) → IsFirst WantedOf None es None → IsFirst WantedOf None (change k (with_checked r) es) None
    none_checked es h = none_still None None es (λ o own. refl) h

  -- The first that is wanted is of no such owner.
  pub first_other : (k : PieceKey) (l : Option (ℕ × Option S)) (es : List (PieceKey × Piece S R)) → IsFirst WantedOf l es None → IsFirst (IsWanted same os) l es (Some k) → H k.owner → ⊥
  first_other k l [] none first h = cc
  first_other k l (e ∷ es) (inl none) first h = absurd (let never : None ≡ Some e.0 = none.1 in cc)
  first_other k l (e ∷ es) (inr none) (inl first) h = let is : e.0 ≡ k = (let both : Some k ≡ Some e.0 = first.1 in cc) in none.0 (subst (λ (x : PieceKey). H x.owner) (sym is) h, first.0)
  first_other k l (e ∷ es) (inr none) (inr first) h = first_other k (left_by e.0 e.1) es none.1 first.1 h
