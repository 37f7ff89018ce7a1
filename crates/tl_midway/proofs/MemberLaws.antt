-- Lists with the same members: their tests, maps and filters.
use Rattle.std.proofs.Common.{◌≡◌, ◌&&◌, ◌||◌, Bool, true, false, cond, List, [], ◌∷◌, map, Some, refl, sym, ap, subst, ◌∙◌}
use Rattle.std.specs.Prelude.{filter, option_map}
use Rattle.std.specs.List.{Contains, find, list_any, list_all}
use Rattle.tl_definitions.proofs.Bursts.{all_pass, some_passes, passing}
use Rattle.tl_definitions.proofs.Lists.{contains_here, contains_there, contains_mapped, mapped_from, contains_kept, kept_from}
use Rattle.tl_midway.specs.Members.{SameMembers}

-- Two answers, each of which is true where the other is.
pub iff_same : (a b : Bool) → (a ≡ true → b ≡ true) → (b ≡ true → a ≡ true) → a ≡ b
iff_same true b f g = sym (f refl)
iff_same false true f g = g refl
iff_same false false f g = refl

module _ {X : Type 0} where
  pub same_list : (xs : List X) → SameMembers xs xs
  same_list xs = record { there = λ x c. c; back = λ x c. c }

  pub same_both : (xs ys zs : List X) → SameMembers xs ys → SameMembers ys zs → SameMembers xs zs
  same_both xs ys zs one two = record { there = λ x c. two.there x (one.there x c); back = λ x c. one.back x (two.back x c) }

  pub any_same : (test : X → Bool) (xs ys : List X) → SameMembers xs ys → list_any test xs ≡ list_any test ys
  any_same test xs ys same =
      iff_same (list_any test xs) (list_any test ys)
      (λ h. let found = passing test xs h in some_passes test ys found.0 (same.there found.0 found.1) found.2)
      (λ h. let found = passing test ys h in some_passes test xs found.0 (same.back found.0 found.1) found.2)

  pub all_by_each : (test : X → Bool) (xs : List X) → ((x : X) → Contains xs x → test x ≡ true) → list_all test xs ≡ true
  all_by_each test [] f = refl
  all_by_each test (x ∷ xs) f =
      let here : test x ≡ true = f x (contains_here x xs) in
      let rest : list_all test xs ≡ true = all_by_each test xs (λ y c. f y (contains_there x xs y c)) in
      λ i. here i && rest i

  pub all_same : (test : X → Bool) (xs ys : List X) → SameMembers xs ys → list_all test xs ≡ list_all test ys
  all_same test xs ys same =
      iff_same (list_all test xs) (list_all test ys)
      (λ h. all_by_each test ys (λ x c. all_pass test xs x h (same.back x c)))
      (λ h. all_by_each test xs (λ x c. all_pass test ys x h (same.there x c)))

  pub kept_same : (test : X → Bool) (xs ys : List X) → SameMembers xs ys → SameMembers (filter test xs) (filter test ys)
  kept_same test xs ys same = record {
    there = λ x c. let known = kept_from test xs x c in contains_kept test ys x (same.there x known.0) known.1;
    back = λ x c. let known = kept_from test ys x c in contains_kept test xs x (same.back x known.0) known.1;
  }

  -- Where no member passes, each fails.
  pub each_fails : (test : X → Bool) (xs : List X) (x : X) → list_any test xs ≡ false → Contains xs x → test x ≡ false
  each_fails test xs x h c =
      elim (test x) as (λ b. test x ≡ b → b ≡ false) [
        | true ↦ λ e. sym (some_passes test xs x c e) ∙ h
        | false ↦ λ e. refl
      ] refl

  -- The first member that passes is kept.
  pub found_kept : (test : X → Bool) (xs : List X) (x : X) → find test xs ≡ Some x → Contains (filter test xs) x
  found_kept test [] x h = cc
  found_kept test (y ∷ ys) x h =
      elim (test y) as (λ b. cond b (Some y) (find test ys) ≡ Some x → Contains (cond b (y ∷ filter test ys) (filter test ys)) x) [
        | true ↦ λ g. (let same : y ≡ x = cc in subst (Contains (y ∷ filter test ys)) same (contains_here y (filter test ys)))
        | false ↦ λ g. found_kept test ys x g
      ] h

module _ {X Y : Type 0} where
  pub any_mapped : (test : Y → Bool) (f : X → Y) (xs : List X) → list_any test (map f xs) ≡ list_any (λ x. test (f x)) xs
  any_mapped test f [] = refl
  any_mapped test f (x ∷ xs) = ap (λ b. test (f x) || b) (any_mapped test f xs)

  pub all_mapped : (test : Y → Bool) (f : X → Y) (xs : List X) → list_all test (map f xs) ≡ list_all (λ x. test (f x)) xs
  all_mapped test f [] = refl
  all_mapped test f (x ∷ xs) = ap (λ b. test (f x) && b) (all_mapped test f xs)

  pub find_mapped : (test : Y → Bool) (f : X → Y) (xs : List X) → find test (map f xs) ≡ option_map f (find (λ x. test (f x)) xs)
  find_mapped test f [] = refl
  find_mapped test f (x ∷ xs) =
      elim (test (f x)) as (λ b. cond b (Some (f x)) (find test (map f xs)) ≡ option_map f (cond b (Some x) (find (λ y. test (f y)) xs))) [
        | true ↦ refl
        | false ↦ find_mapped test f xs
      ]

  pub kept_mapped : (test : Y → Bool) (f : X → Y) (xs : List X) → filter test (map f xs) ≡ map f (filter (λ x. test (f x)) xs)
  kept_mapped test f [] = refl
  kept_mapped test f (x ∷ xs) =
      elim (test (f x)) as (λ b. cond b (f x ∷ filter test (map f xs)) (filter test (map f xs)) ≡ map f (cond b (x ∷ filter (λ y. test (f y)) xs) (filter (λ y. test (f y)) xs))) [
        | true ↦ ap (λ ys. f x ∷ ys) (kept_mapped test f xs)
        | false ↦ kept_mapped test f xs
      ]

  pub map_same : (f : X → Y) (xs ys : List X) → SameMembers xs ys → SameMembers (map f xs) (map f ys)
  map_same f xs ys same = record {
    there = λ y c. let found = mapped_from f xs y c in subst (Contains (map f ys)) found.2 (contains_mapped f ys found.0 (same.there found.0 found.1));
    back = λ y c. let found = mapped_from f ys y c in subst (Contains (map f xs)) found.2 (contains_mapped f xs found.0 (same.back found.0 found.1));
  }
