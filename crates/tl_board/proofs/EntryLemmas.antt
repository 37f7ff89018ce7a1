-- Entries that come to lists by key.
use Rattle.std.proofs.Common.{◌≡◌, true, false, cond, List, [], ◌∷◌, Some, refl, sym, ap, subst, ◌∙◌, Ordering, Less, Equal, Greater}
use Rattle.std.specs.Ordering.{is_eq, match_ordering, ordering_reverse}
use Rattle.std.specs.Cmp.{IsTotalOrder}
use Rattle.std.specs.BTreeMap.{insert_entry, is_at}
use Rattle.std.specs.Map.{lookup}

module _ {K : Type 0} (R : K → K → Ordering) (total : IsTotalOrder R) (exact : (x y : K) → R x y ≡ Equal → x ≡ y) where
  apart : (x y : K) → R x y ≡ Greater → is_at (R y) x ≡ false
  apart x y h = ap is_eq (total.antisymm y x ∙ ap ordering_reverse h)

  at_same : (x y : K) → is_at (R x) y ≡ true → x ≡ y
  at_same x y h = go (R x y) refl h
    where
      go : (o : Ordering) → R x y ≡ o → is_eq o ≡ true → x ≡ y
      go Less e h = cc
      go Equal e h = exact x y e
      go Greater e h = cc

  -- After an entry's coming its key finds its value, and every other key what it found before.
  pub lookup_put : {V : Type 0} (q k : K) (v : V) (es : List (K × V)) → lookup (is_at (R q)) (insert_entry R es k v) ≡ cond (is_at (R q) k) (Some v) (lookup (is_at (R q)) es)
  lookup_put {V} q k v [] = refl
  lookup_put {V} q k v (e ∷ es) = go (lookup_put q k v es) (R k e.0) refl
    where
      go : lookup (is_at (R q)) (insert_entry R es k v) ≡ cond (is_at (R q) k) (Some v) (lookup (is_at (R q)) es) → (o : Ordering) → R k e.0 ≡ o
          → lookup (is_at (R q)) (match_ordering o ((k, v) ∷ e ∷ es) ((e.0, v) ∷ es) (e ∷ insert_entry R es k v)) ≡ cond (is_at (R q) k) (Some v) (cond (is_at (R q) e.0) (Some e.1) (lookup (is_at (R q)) es))
      go later Less h = refl
      go later Equal h =
          subst (λ (x : K). cond (is_at (R q) e.0) (Some v) (lookup (is_at (R q)) es) ≡ cond (is_at (R q) x) (Some v) (cond (is_at (R q) e.0) (Some e.1) (lookup (is_at (R q)) es))) (sym (exact k e.0 h))
          (elim (is_at (R q) e.0) as (λ b. cond b (Some v) (lookup (is_at (R q)) es) ≡ cond b (Some v) (cond b (Some e.1) (lookup (is_at (R q)) es))) [ true ↦ refl | false ↦ refl ])
      go later Greater h =
          elim (is_at (R q) e.0) as (λ b. is_at (R q) e.0 ≡ b → cond b (Some e.1) (lookup (is_at (R q)) (insert_entry R es k v)) ≡ cond (is_at (R q) k) (Some v) (cond b (Some e.1) (lookup (is_at (R q)) es))) [
            | true ↦ λ t. sym (ap (λ c. cond c (Some v) (Some e.1)) (ap (λ x. is_at (R x) k) (at_same q e.0 t) ∙ apart k e.0 h))
            | false ↦ λ t. later
          ] refl
