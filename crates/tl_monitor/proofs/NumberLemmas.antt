-- Entries by number.
use Rattle.std.proofs.Common.{◌≡◌, ℕ, true, false, cond, Bool, List, [], ◌∷◌, Some, None, refl, sym, ap, subst, ◌∙◌, arith, Ordering, Less, Equal, Greater}
use Rattle.std.specs.Ordering.{nat_cmp, is_eq, match_ordering, ordering_reverse}
use Rattle.std.specs.Cmp.{IsEquivalence}
use Rattle.std.specs.BTreeMap.{insert_entry, is_at}
use Rattle.std.specs.Map.{lookup, remove_entry, set_value}
use Rattle.std.proofs.lemmas.Bool.Decides.{nat_tests}
use Rattle.std.proofs.lemmas.Cmp.{nat_cmp_total, eq_by_cmp_equiv}

nat_exact : (x y : ℕ) → nat_cmp x y ≡ Equal → x ≡ y
nat_exact x y h = grind (arith, nat_tests)

pub number_exact : (x y : ℕ) → is_at (nat_cmp x) y ≡ true → x ≡ y
number_exact x y h = go (nat_cmp x y) refl h
  where
    go : (o : Ordering) → nat_cmp x y ≡ o → is_eq o ≡ true → x ≡ y
    go Less e g = cc
    go Equal e g = nat_exact x y e
    go Greater e g = cc

pub own_number : (m : ℕ) → is_at (nat_cmp m) m ≡ true
own_number m = grind (arith, nat_tests)

pub number_equivalence : IsEquivalence (λ k. is_at (nat_cmp k))
number_equivalence = eq_by_cmp_equiv nat_cmp_total

pub same_test : (m : ℕ) (x y : ℕ) → is_at (nat_cmp m) x ≡ true → is_at (nat_cmp m) y ≡ is_at (nat_cmp x) y
same_test m x y h = ap (λ k. is_at (nat_cmp k) y) (number_exact m x h)

pub turned : (m n : ℕ) → is_at (nat_cmp m) n ≡ is_at (nat_cmp n) m
turned m n = go (is_at (nat_cmp m) n) (is_at (nat_cmp n) m) refl refl
  where
    go : (a b : Bool) → is_at (nat_cmp m) n ≡ a → is_at (nat_cmp n) m ≡ b → a ≡ b
    go true true p q = refl
    go false false p q = refl
    go true false p q = absurd (let never : false ≡ true = sym q ∙ subst (λ k. is_at (nat_cmp n) k ≡ true) (sym (number_exact m n p)) (own_number n) in cc)
    go false true p q = absurd (let never : false ≡ true = sym p ∙ subst (λ k. is_at (nat_cmp m) k ≡ true) (sym (number_exact n m q)) (own_number m) in cc)

apart : (x y : ℕ) → nat_cmp x y ≡ Greater → is_at (nat_cmp y) x ≡ false
apart x y h = ap is_eq (nat_cmp_total.antisymm y x ∙ ap ordering_reverse h)

-- Behind an entry's coming its number finds its value, and every other number what it found before.
pub lookup_put : {V : Type 0} (q k : ℕ) (v : V) (es : List (ℕ × V)) → lookup (is_at (nat_cmp q)) (insert_entry nat_cmp es k v) ≡ cond (is_at (nat_cmp q) k) (Some v) (lookup (is_at (nat_cmp q)) es)
lookup_put {V} q k v [] = refl
lookup_put {V} q k v (e ∷ es) = go (lookup_put q k v es) (nat_cmp k e.0) refl
  where
    go : lookup (is_at (nat_cmp q)) (insert_entry nat_cmp es k v) ≡ cond (is_at (nat_cmp q) k) (Some v) (lookup (is_at (nat_cmp q)) es) → (o : Ordering) → nat_cmp k e.0 ≡ o
        → lookup (is_at (nat_cmp q)) (match_ordering o ((k, v) ∷ e ∷ es) ((e.0, v) ∷ es) (e ∷ insert_entry nat_cmp es k v)) ≡ cond (is_at (nat_cmp q) k) (Some v) (cond (is_at (nat_cmp q) e.0) (Some e.1) (lookup (is_at (nat_cmp q)) es))
    go later Less h = refl
    go later Equal h =
        subst (λ (x : ℕ). cond (is_at (nat_cmp q) e.0) (Some v) (lookup (is_at (nat_cmp q)) es) ≡ cond (is_at (nat_cmp q) x) (Some v) (cond (is_at (nat_cmp q) e.0) (Some e.1) (lookup (is_at (nat_cmp q)) es))) (sym (nat_exact k e.0 h))
        (elim (is_at (nat_cmp q) e.0) as (λ b. cond b (Some v) (lookup (is_at (nat_cmp q)) es) ≡ cond b (Some v) (cond b (Some e.1) (lookup (is_at (nat_cmp q)) es))) [ true ↦ refl | false ↦ refl ])
    go later Greater h =
        elim (is_at (nat_cmp q) e.0) as (λ b. is_at (nat_cmp q) e.0 ≡ b → cond b (Some e.1) (lookup (is_at (nat_cmp q)) (insert_entry nat_cmp es k v)) ≡ cond (is_at (nat_cmp q) k) (Some v) (cond b (Some e.1) (lookup (is_at (nat_cmp q)) es))) [
          | true ↦ λ t. sym (ap (λ c. cond c (Some v) (Some e.1)) (ap (λ x. is_at (nat_cmp x) k) (number_exact q e.0 t) ∙ apart k e.0 h))
          | false ↦ λ t. later
        ] refl

-- An entry that comes under a new number and goes again leaves all as it was.
pub put_and_taken : {V : Type 0} (m : ℕ) (v : V) (es : List (ℕ × V)) → lookup (is_at (nat_cmp m)) es ≡ None → remove_entry (is_at (nat_cmp m)) (insert_entry nat_cmp es m v) ≡ es
put_and_taken {V} m v [] none = ap (λ b. cond b [] ((m, v) ∷ [])) (own_number m)
put_and_taken {V} m v (e ∷ es) none = go (put_and_taken m v es) (nat_cmp m e.0) refl none
  where
    go : (lookup (is_at (nat_cmp m)) es ≡ None → remove_entry (is_at (nat_cmp m)) (insert_entry nat_cmp es m v) ≡ es) → (o : Ordering) → nat_cmp m e.0 ≡ o → cond (is_at (nat_cmp m) e.0) (Some e.1) (lookup (is_at (nat_cmp m)) es) ≡ None
        → remove_entry (is_at (nat_cmp m)) (match_ordering o ((m, v) ∷ e ∷ es) ((e.0, v) ∷ es) (e ∷ insert_entry nat_cmp es m v)) ≡ e ∷ es
    go later Less is g = ap (λ b. cond b (e ∷ es) ((m, v) ∷ remove_entry (is_at (nat_cmp m)) (e ∷ es))) (own_number m)
    go later Equal is g = absurd (let never : Some e.1 ≡ None = sym (ap (λ o. cond (is_eq o) (Some e.1) (lookup (is_at (nat_cmp m)) es)) is) ∙ g in cc)
    go later Greater is g =
        let rest : lookup (is_at (nat_cmp m)) es ≡ None = sym (ap (λ o. cond (is_eq o) (Some e.1) (lookup (is_at (nat_cmp m)) es)) is) ∙ g in
        ap (λ o. cond (is_eq o) (insert_entry nat_cmp es m v) (e ∷ remove_entry (is_at (nat_cmp m)) (insert_entry nat_cmp es m v))) is ∙ ap (λ t. e ∷ t) (later rest)

pub put_found : {V : Type 0} (m : ℕ) (v : V) (es : List (ℕ × V)) → lookup (is_at (nat_cmp m)) (insert_entry nat_cmp es m v) ≡ Some v
put_found m v es = lookup_put m m v es ∙ ap (λ b. cond b (Some v) (lookup (is_at (nat_cmp m)) es)) (own_number m)

-- Of two values that one number gets the second stays.
pub set_twice : {V : Type 0} (test : ℕ → Bool) (es : List (ℕ × V)) (v w : V) → set_value test (set_value test es v) w ≡ set_value test es w
set_twice test [] v w = refl
set_twice {V} test (e ∷ es) v w = go (set_twice test es v w) (test e.0) refl
  where
    go : set_value test (set_value test es v) w ≡ set_value test es w → (b : Bool) → test e.0 ≡ b → set_value test (cond b ((e.0, v) ∷ es) (e ∷ set_value test es v)) w ≡ cond b ((e.0, w) ∷ es) (e ∷ set_value test es w)
    go later true t = ap (λ b. cond b ((e.0, w) ∷ es) ((e.0, v) ∷ set_value test es w)) t
    go later false t = ap (λ b. cond b ((e.0, w) ∷ set_value test es v) (e ∷ set_value test (set_value test es v) w)) t ∙ ap (λ t. e ∷ t) later
