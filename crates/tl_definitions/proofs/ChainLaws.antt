-- Chains of passes judge their whole list of beats, whatever judges them.
use Rattle.std.proofs.Common.{◌≡◌, List, [], ◌∷◌, ◌++◌, refl, sym, ap, subst, ◌∙◌, append_assoc, inl, inr}
use Rattle.std.specs.List.{Contains}
use Rattle.std.proofs.lemmas.List.Elements.{Contains-append_left, Contains-append_right, Contains-append_cases}
use Rattle.tl_beats.specs.declared.Placed.{Placed}
use Rattle.tl_beats.specs.declared.Row.{Row}
use Rattle.tl_definitions.specs.Passes.{Judge, Pass, IsChain, SomeHas, rows_judged, left_after, pass_beats, last_exit}
use Rattle.tl_definitions.proofs.Lists.{contains_none, contains_cases, contains_here, contains_there}

module _ {S : Type 0} (judge : Judge S) where
  pub rows_judged-append : (s : S) (xs ys : List Placed) → rows_judged judge s (xs ++ ys) ≡ rows_judged judge s xs ++ rows_judged judge (left_after judge s xs) ys
  rows_judged-append s [] ys = refl
  rows_judged-append s (x ∷ xs) ys =
      ap (λ rows. judge.rows s x ++ rows) (rows_judged-append (judge.next s x) xs ys)
      ∙ sym (append_assoc (judge.rows s x) (rows_judged judge (judge.next s x) xs) (rows_judged judge (left_after judge (judge.next s x) xs) ys))

  pub left_after-append : (s : S) (xs ys : List Placed) → left_after judge s (xs ++ ys) ≡ left_after judge (left_after judge s xs) ys
  left_after-append s [] ys = refl
  left_after-append s (x ∷ xs) ys = left_after-append (judge.next s x) xs ys

  pub chain_has : (s : S) (passes : List (Pass S)) → IsChain judge s passes → (row : Row) → SomeHas passes row → Contains (rows_judged judge s (pass_beats passes)) row
  chain_has s [] chain row has = absurd (contains_none has.0 has.1)
  chain_has s (pass ∷ passes) chain row has =
      let next : pass.exit ≡ left_after judge s pass.beats = chain.0.exit ∙ ap (λ t. left_after judge t pass.beats) chain.1 in
      let first : List Row = rows_judged judge s pass.beats in
      let rest : List Row = rows_judged judge (left_after judge s pass.beats) (pass_beats passes) in
      subst (λ rows. Contains rows row) (sym (rows_judged-append s pass.beats (pass_beats passes))) (elim (contains_cases pass passes has.0 has.1) [
        | inl e ↦ Contains-append_left first rest row (subst (λ t. Contains (rows_judged judge t pass.beats) row) chain.1 ((chain.0.members row).0 (subst (λ q. Contains q.rows row) (sym e) has.2)))
        | inr r ↦ Contains-append_right first rest row (subst (λ t. Contains (rows_judged judge t (pass_beats passes)) row) next (chain_has pass.exit passes chain.2 row (has.0, r, has.2)))
      ])

  pub chain_from : (s : S) (passes : List (Pass S)) → IsChain judge s passes → (row : Row) → Contains (rows_judged judge s (pass_beats passes)) row → SomeHas passes row
  chain_from s [] chain row has = absurd (contains_none row has)
  chain_from s (pass ∷ passes) chain row has =
      let next : pass.exit ≡ left_after judge s pass.beats = chain.0.exit ∙ ap (λ t. left_after judge t pass.beats) chain.1 in
      elim (Contains-append_cases (rows_judged judge s pass.beats) (rows_judged judge (left_after judge s pass.beats) (pass_beats passes)) row
      (subst (λ rows. Contains rows row) (rows_judged-append s pass.beats (pass_beats passes)) has)) [
        | inl a ↦ (pass, contains_here pass passes, (chain.0.members row).1 (subst (λ t. Contains (rows_judged judge t pass.beats) row) (sym chain.1) a))
        | inr b ↦ (let known = chain_from pass.exit passes chain.2 row (subst (λ t. Contains (rows_judged judge t (pass_beats passes)) row) (sym next) b) in
            (known.0, contains_there pass passes known.0 known.1, known.2))
      ]

  pub chain_ends : (s : S) (passes : List (Pass S)) → IsChain judge s passes → last_exit s passes ≡ left_after judge s (pass_beats passes)
  chain_ends s [] chain = refl
  chain_ends s (pass ∷ passes) chain =
      let next : pass.exit ≡ left_after judge s pass.beats = chain.0.exit ∙ ap (λ t. left_after judge t pass.beats) chain.1 in
      chain_ends pass.exit passes chain.2 ∙ ap (λ t. left_after judge t (pass_beats passes)) next ∙ sym (left_after-append s pass.beats (pass_beats passes))
