-- One item more of those that pass a test.
use Rattle.std.proofs.Common.{◌≡◌, ℕ, ◌+◌, ◌<◌, ◌≤◌, Bool, true, false, cond, List, [], ◌∷◌, ◌++◌, length, take, get_or, sym, ap, ◌∙◌}
use Rattle.std.specs.Prelude.{filter}
use Rattle.std.proofs.lemmas.List.{append-nil, take_all}
use Rattle.std.proofs.lemmas.List.Elements.{filter_more}

module _ {X : Type 0} (p : X → Bool) (xs : List X) (n : ℕ) (d : X) (now items : List X) (within : n < length xs) (known : items ≡ filter p (take n xs)) where
  more : (b : Bool) → p (get_or xs n d) ≡ b → filter p (take (n + 1) xs) ≡ filter p (take n xs) ++ cond b (get_or xs n d ∷ []) []
  more b is = filter_more p xs n d within ∙ ap (λ c. filter p (take n xs) ++ cond c (get_or xs n d ∷ []) []) is

  pub kept : p (get_or xs n d) ≡ true → now ≡ items ++ get_or xs n d ∷ [] → now ≡ filter p (take (n + 1) xs)
  kept holds new = new ∙ ap (λ ys. ys ++ get_or xs n d ∷ []) known ∙ sym (more true holds)

  pub passed : p (get_or xs n d) ≡ false → now ≡ items → now ≡ filter p (take (n + 1) xs)
  passed fails new = new ∙ known ∙ sym (more false fails ∙ append-nil (filter p (take n xs)))

-- what was kept of all of them
pub whole : {X : Type 0} (p : X → Bool) (xs : List X) (n : ℕ) (items : List X) → length xs ≤ n → items ≡ filter p (take n xs) → items ≡ filter p xs
whole p xs n items end known = known ∙ ap (filter p) (take_all n xs end)
