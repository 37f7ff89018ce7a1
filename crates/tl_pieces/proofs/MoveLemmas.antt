-- The first piece that is wanted gets its result, and the next that is wanted stands after it.
use Rattle.std.proofs.Common.{◌≡◌, ℕ, ◌≤◌, ◌==◌, true, false, not, ◌&&◌, cond, List, [], ◌∷◌, refl, sym, ap, ◌∙◌, subst, arith, Less, Greater, Option, Some, None, inl, inr}
use Rattle.std.proofs.lemmas.Bool.Decides.{nat_tests}
use Rattle.std.specs.Prelude.{◌⊎◌, ⊤}
use Rattle.std.specs.Option.{option_or}
use Rattle.std.specs.Ordering.{is_eq, is_le, ordering_reverse}
use Rattle.std.specs.List.{AllByRecursion}
use Rattle.std.specs.BTreeMap.{is_at}
use Rattle.std.specs.Map.{keys_of}
use Rattle.std.proofs.lemmas.Map.Keys.{sorted_head, sorted_tail}
use Rattle.tl_pieces.specs.declared.key.PieceKey.{PieceKey}
use Rattle.tl_pieces.specs.Keys.{key_cmp, change, before, Rises}
use Rattle.tl_pieces.specs.Pieces.{Pass, Piece, exit_of, last_exit, opening_of, exit_before, left_by, with_result, IsGood, IsWanted, IsFirst}
use Rattle.tl_pieces.proofs.KeyLemmas.{key_total, key_self, owner_le}
use Rattle.tl_pieces.proofs.OwnerLemmas.{owners_later}
use Rattle.tl_pieces.proofs.ReadyLemmas.{either_then, either_none}

module _ {S R : Type 0} where
  -- the first is one of them
  first_in : (P : Option (ℕ × Option S) → PieceKey → Piece S R → Type 0) (Q : PieceKey → Type 0) (l : Option (ℕ × Option S)) (es : List (PieceKey × Piece S R)) (q : PieceKey)
      → AllByRecursion Q (keys_of es) → IsFirst P l es (Some q) → Q q
  first_in P Q l [] q a h = cc
  first_in P Q l (e ∷ es) q a (inl h) = let is : e.0 ≡ q = cc in subst Q is a.0
  first_in P Q l (e ∷ es) q a (inr h) = first_in P Q (left_by e.0 e.1) es q a.1 h.1

  before_none : (k : PieceKey) (es : List (PieceKey × Piece S R)) → AllByRecursion (λ y. key_cmp k y ≡ Less) (keys_of es) → before k es ≡ []
  before_none k [] a = refl
  before_none k (e ∷ es) a = ap (λ o. cond (true && not (is_le o)) (e ∷ before k es) (before k es)) a.0 ∙ before_none k es a.1

  -- what stands before a list is of no later owner than its pieces
  abbrev IsPast : Option (ℕ × Option S) → List (PieceKey × Piece S R) → Type 0
  IsPast None es = ⊤
  IsPast (Some l) es = AllByRecursion (λ (k : PieceKey). l.0 ≤ k.owner) (keys_of es)

  module _ (same : S → S → Type 0) (os : List (ℕ × S)) (k q : PieceKey) (r : Pass S R) (t : S) (alike : same r.entry t) where
    -- what the key's piece is to begin with, seen from one piece further
    goes_on : (l : Option (ℕ × Option S)) (e : PieceKey × Piece S R) (es : List (PieceKey × Piece S R)) → IsPast l (e ∷ es) → key_cmp k e.0 ≡ Greater → (IsWanted same os l e.0 e.1 → ⊥)
        → option_or (last_exit k.owner (before k (e ∷ es))) (exit_before os l k.owner) ≡ Some t → option_or (last_exit k.owner (before k es)) (exit_before os (left_by e.0 e.1) k.owner) ≡ Some t
    goes_on l e es past gt unwanted h =
        elim (e.0.owner == k.owner) as (λ b. (e.0.owner == k.owner) ≡ b → option_or (option_or (last_exit k.owner (before k es)) (cond b (exit_of e.1.result) None)) (exit_before os l k.owner) ≡ Some t → option_or (last_exit k.owner (before k es)) (cond b (exit_of e.1.result) (opening_of k.owner os)) ≡ Some t) [
          | true ↦ λ _ g. own e.1.result unwanted g
          | false ↦ λ apart g. ap (option_or (last_exit k.owner (before k es))) (sym (opens l past apart)) ∙ sym (either_none (last_exit k.owner (before k es)) (exit_before os l k.owner)) ∙ g
        ] refl (sym here ∙ h)
      where
        here : option_or (last_exit k.owner (before k (e ∷ es))) (exit_before os l k.owner) ≡ option_or (option_or (last_exit k.owner (before k es)) (cond (e.0.owner == k.owner) (exit_of e.1.result) None)) (exit_before os l k.owner)
        here = ap (λ o. option_or (last_exit k.owner (cond (true && not (is_le o)) (e ∷ before k es) (before k es))) (exit_before os l k.owner)) gt

        own : (x : Option (Pass S R)) → ((IsGood same (exit_before os l e.0.owner) x → ⊥) → ⊥) → option_or (option_or (last_exit k.owner (before k es)) (exit_of x)) (exit_before os l k.owner) ≡ Some t → option_or (last_exit k.owner (before k es)) (exit_of x) ≡ Some t
        own None u g = absurd (u (λ x. x))
        own (Some p) u g = sym (either_then (last_exit k.owner (before k es)) p.exit (exit_before os l k.owner)) ∙ g

        opens : (l : Option (ℕ × Option S)) → IsPast l (e ∷ es) → (e.0.owner == k.owner) ≡ false → exit_before os l k.owner ≡ opening_of k.owner os
        opens None p apart = refl
        opens (Some l) p apart =
            let high : l.0 ≤ e.0.owner = p.0 in
            let low : e.0.owner ≤ k.owner = owner_le e.0 k gt in
            let other : (l.0 == k.owner) ≡ false = grind (arith, nat_tests) in
            ap (λ b. cond b l.1 (opening_of k.owner os)) other

    pub moves : (l : Option (ℕ × Option S)) (es : List (PieceKey × Piece S R)) → Rises es → IsPast l es → option_or (last_exit k.owner (before k es)) (exit_before os l k.owner) ≡ Some t
        → IsFirst (IsWanted same os) l es (Some k) → IsFirst (IsWanted same os) l (change k (with_result r) es) (Some q) → key_cmp k q ≡ Less
    moves l [] s p h first new = cc
    moves l (e ∷ es) s p h (inl first) new = at_head (subst (λ b. IsFirst (IsWanted same os) l (cond b ((e.0, with_result r e.1) ∷ es) (e ∷ change k (with_result r) es)) (Some q)) found new)
      where
        is : k ≡ e.0
        is = let x = first.1 in cc

        found : is_at (key_cmp k) e.0 ≡ true
        found = ap (λ x. is_eq (key_cmp k x)) (sym is) ∙ ap is_eq (key_self k)

        above : AllByRecursion (λ y. key_cmp k y ≡ Less) (keys_of es)
        above = subst (λ (x : PieceKey). AllByRecursion (λ y. key_cmp x y ≡ Less) (keys_of es)) (sym is) (sorted_head key_cmp e.0 (keys_of es) s)

        alone : before k (e ∷ es) ≡ []
        alone = ap (λ o. cond (true && not (is_le o)) (e ∷ before k es) (before k es)) (ap (key_cmp k) (sym is) ∙ key_self k) ∙ before_none k es above

        exit : exit_before os l e.0.owner ≡ Some t
        exit = ap (λ (x : PieceKey). exit_before os l x.owner) (sym is) ∙ sym (ap (λ t. option_or (last_exit k.owner t) (exit_before os l k.owner)) alone) ∙ h

        at_head : (IsWanted same os l e.0 (with_result r e.1) × (Some q ≡ Some e.0)) ⊎ ((IsWanted same os l e.0 (with_result r e.1) → ⊥) × IsFirst (IsWanted same os) (left_by e.0 (with_result r e.1)) es (Some q)) → key_cmp k q ≡ Less
        at_head (inl x) = absurd (x.0 (subst (λ b. IsGood same b (Some r)) (sym exit) alike))
        at_head (inr x) = first_in (IsWanted same os) (λ y. key_cmp k y ≡ Less) (left_by e.0 (with_result r e.1)) es q above x.1
    moves l (e ∷ es) s p h (inr first) new = behind (λ begins x. moves (left_by e.0 e.1) es rest past begins first.1 x) (subst (λ b. IsFirst (IsWanted same os) l (cond b ((e.0, with_result r e.1) ∷ es) (e ∷ change k (with_result r) es)) (Some q)) apart new)
      where
        after : key_cmp e.0 k ≡ Less
        after = first_in (IsWanted same os) (λ y. key_cmp e.0 y ≡ Less) (left_by e.0 e.1) es k (sorted_head key_cmp e.0 (keys_of es) s) first.1

        gt : key_cmp k e.0 ≡ Greater
        gt = key_total.antisymm k e.0 ∙ ap ordering_reverse after

        apart : is_at (key_cmp k) e.0 ≡ false
        apart = ap is_eq gt

        rest : Rises es
        rest = sorted_tail key_cmp e.0 (keys_of es) s

        past : IsPast (left_by e.0 e.1) es
        past = owners_later e.0 es (sorted_head key_cmp e.0 (keys_of es) s)

        behind : (option_or (last_exit k.owner (before k es)) (exit_before os (left_by e.0 e.1) k.owner) ≡ Some t → IsFirst (IsWanted same os) (left_by e.0 e.1) (change k (with_result r) es) (Some q) → key_cmp k q ≡ Less)
            → (IsWanted same os l e.0 e.1 × (Some q ≡ Some e.0)) ⊎ ((IsWanted same os l e.0 e.1 → ⊥) × IsFirst (IsWanted same os) (left_by e.0 e.1) (change k (with_result r) es) (Some q)) → key_cmp k q ≡ Less
        behind go (inl x) = absurd (first.0 x.0)
        behind go (inr x) = go (goes_on l e es p gt first.0 h) x.1
