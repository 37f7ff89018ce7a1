-- The pieces of one owner, among those of all.
use Rattle.std.proofs.Common.{◌≡◌, ℕ, ◌≤◌, ◌<◌, ◌==◌, true, false, cond, List, [], ◌∷◌, refl, sym, ap, ◌∙◌, subst, arith, Option, Some, None, eqb-true}
use Rattle.std.proofs.lemmas.Bool.Decides.{nat_tests}
use Rattle.std.specs.Prelude.{⊤}
use Rattle.std.specs.List.{AllByRecursion}
use Rattle.std.specs.Map.{keys_of}
use Rattle.std.proofs.lemmas.Map.Keys.{sorted_head, sorted_tail}
use Rattle.tl_pieces.specs.declared.key.PieceKey.{PieceKey}
use Rattle.tl_pieces.specs.Keys.{key_cmp, owned_by, Rises}
use Rattle.tl_pieces.specs.Pieces.{Pass, Piece, exit_of, opening_of, exit_before, left_by, Follows, ChainsFrom, Links, IsChain}
use Rattle.tl_pieces.proofs.OwnerLemmas.{owners_later, none_left}

module _ {S R : Type 0} (same : S → S → Type 0) (os : List (ℕ × S)) (o : ℕ) where
  -- no later key has an owner before that of the last
  abbrev IsPast : Option (ℕ × Option S) → List (PieceKey × Piece S R) → Type 0
  IsPast None es = ⊤
  IsPast (Some l) es = AllByRecursion (λ (k : PieceKey). l.0 ≤ k.owner) (keys_of es)

  linked : (x : S) (b : Option S) (r : Option (Pass S R)) (P : S → Type 0) → b ≡ Some x → Follows same b r → ((p : Pass S R) → r ≡ Some p → P p.exit) → Links same x r P
  linked x None r P h f g = cc
  linked x (Some y) None P h f g = absurd f
  linked x (Some y) (Some p) P h f g = (subst (λ (z : S). same p.entry z) (cc) f, g p refl)

  pub chain_of : (x : S) (l : Option (ℕ × Option S)) (es : List (PieceKey × Piece S R)) → Rises es → IsPast l es → ChainsFrom same os l es → exit_before os l o ≡ Some x → IsChain same x (owned_by o es)
  chain_of x l [] s p h is = tt
  chain_of x l (e ∷ es) s p h is =
      elim (e.0.owner == o) as (λ b. (e.0.owner == o) ≡ b → IsChain same x (cond b (e ∷ owned_by o es) (owned_by o es))) [
        | true ↦ λ t. linked x (exit_before os l e.0.owner) e.1.result (λ y. IsChain same y (owned_by o es)) (ap (exit_before os l) (eqb-true e.0.owner o t) ∙ is) h.0
            (λ r some. chain_of r.exit (left_by e.0 e.1) es rest past h.1 (ap (λ b. cond b (exit_of e.1.result) (opening_of o os)) t ∙ ap exit_of some))
        | false ↦ λ f. skip l p is f (chain_of x (left_by e.0 e.1) es rest past h.1)
      ] refl
    where
      rest : Rises es
      rest = sorted_tail key_cmp e.0 (keys_of es) s

      past : AllByRecursion (λ (y : PieceKey). e.0.owner ≤ y.owner) (keys_of es)
      past = owners_later e.0 es (sorted_head key_cmp e.0 (keys_of es) s)

      opens : (e.0.owner == o) ≡ false → opening_of o os ≡ Some x → cond (e.0.owner == o) (exit_of e.1.result) (opening_of o os) ≡ Some x
      opens f is = ap (λ b. cond b (exit_of e.1.result) (opening_of o os)) f ∙ is

      skip : (l : Option (ℕ × Option S)) → IsPast l (e ∷ es) → exit_before os l o ≡ Some x → (e.0.owner == o) ≡ false
          → (cond (e.0.owner == o) (exit_of e.1.result) (opening_of o os) ≡ Some x → IsChain same x (owned_by o es)) → IsChain same x (owned_by o es)
      skip None p is f go = go (opens f is)
      skip (Some l) p is f go =
          elim (l.0 == o) as (λ b. (l.0 == o) ≡ b → cond b l.1 (opening_of o os) ≡ Some x → IsChain same x (owned_by o es)) [
            | true ↦ λ t _.
                let le : l.0 ≤ e.0.owner = p.0 in
                let low : o < e.0.owner = grind (arith, nat_tests) in
                subst (IsChain same x) (sym (none_left o e.0.owner low es past)) tt
            | false ↦ λ _ g. go (opens f g)
          ] refl is
