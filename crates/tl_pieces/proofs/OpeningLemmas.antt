-- The opening states that are shown.
use Rattle.std.proofs.Common.{◌==◌, arith, ◌≡◌, ℕ, suc, true, false, cond, List, [], ◌∷◌, refl, sym, ap, ◌∙◌, subst, Less, Equal, Greater, Option, Some, None, length, true≢false}
use Rattle.std.proofs.lemmas.Bool.Decides.{nat_tests}
use Rattle.std.specs.Prelude.{is_some}
use Rattle.std.specs.Arc.{arc_value}
use Rattle.std.specs.declared.sync.Arc.{Arc}
use Rattle.std.specs.Ordering.{nat_cmp, is_eq, match_ordering}
use Rattle.std.specs.Option.{option_map}
use Rattle.std.specs.BTreeMap.{insert_entry, is_at}
use Rattle.std.specs.List.Sorted.{IsStrictlySortedBy}
use Rattle.std.specs.Map.{keys_of, lookup, remove_entry}
use Rattle.tl_pieces.specs.Pieces.{opening_of, OwnersRise}
use Rattle.std.proofs.lemmas.Map.Lookups.{exact_unsigned}
use Rattle.tl_pieces.specs.Marks.{openings_of}
use Rattle.tl_pieces.proofs.KeyLemmas.{is_equal}

pub through : {A B C : Type 0} (f : A → B) (g : B → C) (x : Option A) → option_map (λ a. g (f a)) x ≡ option_map g (option_map f x)
through f g None = refl
through f g (Some a) = refl

module _ {S Y : Type 0} where
  pub opening_shown : (o : ℕ) (es : List (ℕ × Arc S Y)) → opening_of o (openings_of es) ≡ option_map arc_value (lookup (is_at (nat_cmp o)) es)
  opening_shown o [] = refl
  opening_shown o (e ∷ es) =
      elim (is_at (nat_cmp o) e.0) as (λ b. cond b (Some (arc_value e.1)) (opening_of o (openings_of es)) ≡ option_map arc_value (cond b (Some e.1) (lookup (is_at (nat_cmp o)) es))) [
        | true ↦ refl
        | false ↦ opening_shown o es
      ]

  pub put_shown : (o : ℕ) (a : Arc S Y) (es : List (ℕ × Arc S Y)) → openings_of (insert_entry nat_cmp es o a) ≡ insert_entry nat_cmp (openings_of es) o (arc_value a)
  put_shown o a [] = refl
  put_shown o a (e ∷ es) =
      elim (nat_cmp o e.0) as (λ x. openings_of (match_ordering x ((o, a) ∷ e ∷ es) ((e.0, a) ∷ es) (e ∷ insert_entry nat_cmp es o a))
      ≡ match_ordering x ((o, arc_value a) ∷ openings_of (e ∷ es)) ((e.0, arc_value a) ∷ openings_of es) ((e.0, arc_value e.1) ∷ insert_entry nat_cmp (openings_of es) o (arc_value a))) [
        | Less ↦ refl
        | Equal ↦ refl
        | Greater ↦ ap (λ t. (e.0, arc_value e.1) ∷ t) (put_shown o a es)
      ]

  pub take_shown : (o : ℕ) (es : List (ℕ × Arc S Y)) → openings_of (remove_entry (is_at (nat_cmp o)) es) ≡ remove_entry (is_at (nat_cmp o)) (openings_of es)
  take_shown o [] = refl
  take_shown o (e ∷ es) =
      elim (is_at (nat_cmp o) e.0) as (λ b. openings_of (cond b es (e ∷ remove_entry (is_at (nat_cmp o)) es)) ≡ cond b (openings_of es) ((e.0, arc_value e.1) ∷ remove_entry (is_at (nat_cmp o)) (openings_of es))) [
        | true ↦ refl
        | false ↦ ap (λ t. (e.0, arc_value e.1) ∷ t) (take_shown o es)
      ]

  pub count_shown : (es : List (ℕ × Arc S Y)) → length es ≡ length (openings_of es)
  count_shown [] = refl
  count_shown (e ∷ es) = ap suc (count_shown es)

  owners_shown : (es : List (ℕ × Arc S Y)) → keys_of es ≡ keys_of (openings_of es)
  owners_shown [] = refl
  owners_shown (e ∷ es) = ap (λ t. e.0 ∷ t) (owners_shown es)

  pub rise_shown : (es : List (ℕ × Arc S Y)) → IsStrictlySortedBy nat_cmp (keys_of es) → OwnersRise (openings_of es)
  rise_shown es s = subst (IsStrictlySortedBy nat_cmp) (owners_shown es) s

-- ---- an owner comes

module _ {S : Type 0} where
  differ : (o q : ℕ) (os : List (ℕ × S)) → opening_of o os ≡ None → is_some (opening_of q os) ≡ true → is_at (nat_cmp q) o ≡ false
  differ o q os none some =
      elim (is_at (nat_cmp q) o) as (λ b. is_at (nat_cmp q) o ≡ b → b ≡ false) [
        | true ↦ λ t. absurd (true≢false (sym some ∙ ap (λ (x : ℕ). is_some (opening_of x os)) (exact_unsigned q o (is_equal (nat_cmp q o) t)) ∙ ap is_some none))
        | false ↦ λ _. refl
      ] refl

  put_apart : (o q : ℕ) (s : S) (os : List (ℕ × S)) → opening_of o os ≡ None → is_at (nat_cmp q) o ≡ false → opening_of q (insert_entry nat_cmp os o s) ≡ opening_of q os
  put_apart o q s [] none apart = ap (λ b. cond b (Some s) None) apart
  put_apart o q s (e ∷ os) none apart =
      elim (nat_cmp o e.0) as (λ x. cond (is_eq x) (Some e.1) (opening_of o os) ≡ None → opening_of q (match_ordering x ((o, s) ∷ e ∷ os) ((e.0, s) ∷ os) (e ∷ insert_entry nat_cmp os o s)) ≡ opening_of q (e ∷ os)) [
        | Less ↦ λ _. ap (λ b. cond b (Some s) (opening_of q (e ∷ os))) apart
        | Equal ↦ λ h. cc
        | Greater ↦ λ h. ap (cond (is_at (nat_cmp q) e.0) (Some e.1)) (put_apart o q s os h apart)
      ] none

  -- the others keep their opening states
  pub opening_put : (o : ℕ) (s : S) (os : List (ℕ × S)) → opening_of o os ≡ None → (q : ℕ) → is_some (opening_of q os) ≡ true → opening_of q (insert_entry nat_cmp os o s) ≡ opening_of q os
  opening_put o s os none q some = put_apart o q s os none (differ o q os none some)

-- ---- an owner goes

apart_at : (q o : ℕ) → (q == o) ≡ false → is_at (nat_cmp q) o ≡ false
apart_at q o apart =
    elim (nat_cmp q o) as (λ c. nat_cmp q o ≡ c → is_eq c ≡ false) [
      | Less ↦ λ _. refl
      | Equal ↦ λ e. let is : q ≡ o = exact_unsigned q o e in grind (arith, nat_tests)
      | Greater ↦ λ _. refl
    ] refl

module _ {S : Type 0} where
  -- the others keep their opening states
  pub opening_take : (o q : ℕ) (os : List (ℕ × S)) → (q == o) ≡ false → opening_of q (remove_entry (is_at (nat_cmp o)) os) ≡ opening_of q os
  opening_take o q [] apart = refl
  opening_take o q (e ∷ os) apart =
      elim (is_at (nat_cmp o) e.0) as (λ b. is_at (nat_cmp o) e.0 ≡ b → opening_of q (cond b os (e ∷ remove_entry (is_at (nat_cmp o)) os)) ≡ opening_of q (e ∷ os)) [
        | true ↦ λ t.
            let is : o ≡ e.0 = exact_unsigned o e.0 (is_equal (nat_cmp o e.0) t) in
            sym (ap (λ b. cond b (Some e.1) (opening_of q os)) (ap (is_at (nat_cmp q)) (sym is) ∙ apart_at q o apart))
        | false ↦ λ _. ap (cond (is_at (nat_cmp q) e.0) (Some e.1)) (opening_take o q os apart)
      ] refl
