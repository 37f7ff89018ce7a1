-- Lists that grow at their end.
use Rattle.std.proofs.Common.{◌≡◌, ℕ, zero, suc, ◌+◌, ◌<◌, true, false, List, [], ◌∷◌, ◌++◌, length, Some, take, drop, get_or, refl, sym, ap, subst, ◌∙◌, arith}
use Rattle.std.proofs.Math.ListN.{get_or-append}
use Rattle.std.proofs.Math.Seq.{get_or-append_seam}
use Rattle.std.proofs.lemmas.Bool.Decides.{nat_tests}
use Rattle.std.proofs.lemmas.Option.{slice_get-get_or}
use Rattle.std.specs.Option.{option_map_or}
use Rattle.std.specs.Prelude.{slice_get, nat_lt}
use Rattle.std.specs.List.{AllByRecursion}

pub all_more : {X : Type 0} (P : X → Type 0) (xs : List X) (x : X) → AllByRecursion P xs → P x → AllByRecursion P (xs ++ x ∷ [])
all_more P [] x all one = (one, tt)
all_more P (y ∷ xs) x all one = (all.0, all_more P xs x all.1 one)

take_next : {X : Type 0} (xs : List X) (n : ℕ) (x : X) → slice_get xs n ≡ Some x → take (suc n) xs ≡ take n xs ++ x ∷ []
take_next [] n x h = cc
take_next (y ∷ xs) zero x h = cc
take_next (y ∷ xs) (suc n) x h = ap (λ ys. y ∷ ys) (take_next xs n x h)

pub take_more : {X : Type 0} (xs : List X) (n : ℕ) (x : X) → slice_get xs n ≡ Some x → take (n + 1) xs ≡ take n xs ++ x ∷ []
take_more xs n x h = ap (λ k. take k xs) (let e : n + 1 ≡ suc n = omega arith in e) ∙ take_next xs n x h

-- An item that is there is found with any default.
pub same_item : {X : Type 0} (xs : List X) (i : ℕ) (x d : X) → i < length xs → x ≡ get_or xs i x → get_or xs i d ≡ x
same_item xs i x d within is = ap (λ o. option_map_or (λ z. z) o d) (sym (slice_get-get_or xs i d within) ∙ slice_get-get_or xs i x within) ∙ sym is

-- Two lists of items that agree, with one more each.
pub same_more : {X : Type 0} (Same : X → X → Type 0) (xs ys : List X) (x y : X) (i : ℕ) → length ys ≡ i → ((d : X) → get_or xs i d ≡ x) → Same x y
    → ((n : ℕ) (d : X) → n < i → Same (get_or xs n d) (get_or ys n d)) → (n : ℕ) (d : X) → n < i + 1 → Same (get_or xs n d) (get_or (ys ++ y ∷ []) n d)
same_more Same xs ys x y i many at same each n d below =
    elim (nat_lt n i) as (λ b. nat_lt n i ≡ b → Same (get_or xs n d) (get_or (ys ++ y ∷ []) n d)) [
      | true ↦ λ h. (let earlier : n < i = grind (arith, nat_tests) in let within : n < length ys = omega (arith, many, earlier) in
          subst (Same (get_or xs n d)) (sym (get_or-append ys (y ∷ []) d n within)) (each n d earlier))
      | false ↦ λ h. (let last : n ≡ i = grind (arith, nat_tests) in
          subst (λ k. Same (get_or xs k d) (get_or (ys ++ y ∷ []) k d)) (sym last)
          (subst (λ z. Same z (get_or (ys ++ y ∷ []) i d)) (sym (at d))
          (subst (Same x) (sym (ap (λ k. get_or (ys ++ y ∷ []) k d) (sym many) ∙ get_or-append_seam ys y [] d)) same)))
    ] refl

drop_next : {X : Type 0} (xs : List X) (n : ℕ) (x : X) → slice_get xs n ≡ Some x → drop n xs ≡ x ∷ drop (suc n) xs
drop_next [] n x h = cc
drop_next (y ∷ xs) zero x h = cc
drop_next (y ∷ xs) (suc n) x h = drop_next xs n x h

pub drop_more : {X : Type 0} (xs : List X) (n : ℕ) (x : X) → slice_get xs n ≡ Some x → drop n xs ≡ x ∷ drop (n + 1) xs
drop_more xs n x h = drop_next xs n x h ∙ ap (λ k. x ∷ drop k xs) (let e : suc n ≡ n + 1 = omega arith in e)
