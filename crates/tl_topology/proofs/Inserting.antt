-- A name that is not there is put last.
use Rattle.std.proofs.Common.{◌≡◌, ℕ, zero, suc, ◌+◌, Bool, true, false, cond, ltb, not, List, [], ◌∷◌, ◌++◌, length, map, take, subst, Some, None, refl, sym, ap, ◌∙◌, arith}
use Rattle.std.specs.Prelude.{is_some}
use Rattle.std.specs.List.{position, position_or_len, slice_get, AllByRecursion, IsDistinct}
use Rattle.std.specs.Str.{bytes_eq}
use Rattle.std.proofs.lemmas.Cmp.{nat_list_eq_equiv}
use Rattle.std.proofs.lemmas.Option.{none-some, same_Some}
use Rattle.std.proofs.lemmas.Bool.{false≢true, lt-ltb, le-ltb, ltb-false}
use Rattle.indexmap.specs.IndexMap.{insert_entry}

is_some_within : (n m : ℕ) → is_some (cond (ltb n m) (Some n) None) ≡ ltb n m
is_some_within n m = elim (ltb n m) as (λ t. is_some (cond t (Some n) None) ≡ t) [ true ↦ refl | false ↦ refl ]

-- what passes no test up to the end passes none here and none after
passes_none : (t : Bool) (n m : ℕ) → ltb (cond (not t) (1 + n) 0) (suc m) ≡ false → (t ≡ false) × (ltb n m ≡ false)
passes_none true n m h = absurd (false≢true (sym h ∙ lt-ltb 0 (suc m) (omega arith)))
passes_none false n m h = (refl, le-ltb n m (omega (arith, ltb-false (1 + n) (suc m) h)))

pub insert_new : {K V : Type 0} (eq : K → K → Bool) (k : K) (v : V) (es : List (K × V)) → is_some (position (eq k) (map (λ p. p.0) es)) ≡ false → insert_entry eq es k v ≡ es ++ (k, v) ∷ []
insert_new eq k v [] h = refl
insert_new {K} {V} eq k v (e ∷ es) h =
    let names : List K = map (λ (p : K × V). p.0) es in
    let parts = passes_none (eq k e.0) (position_or_len (eq k) names) (length names) (sym (is_some_within _ _) ∙ h) in
    rw parts.0 (ap (λ (r : List (K × V)). e ∷ r) (insert_new eq k v es (is_some_within _ _ ∙ parts.1)))

-- ---- copying one entry after another

flip : (a b : List ℕ) → bytes_eq b a ≡ false → bytes_eq a b ≡ false
flip a b e = nat_list_eq_equiv.symm a b ∙ e

differs_at : {V : Type 0} (first name : List ℕ) (value : V) (es : List (List ℕ × V)) (at : ℕ) → AllByRecursion (λ other. bytes_eq first other ≡ false) (map (λ (p : List ℕ × V). p.0) es) → slice_get es at ≡ Some (name, value) → bytes_eq first name ≡ false
differs_at first name value [] at all e = absurd (none-some _ e)
differs_at {V} first name value (x ∷ es) zero all e = subst (λ (p : List ℕ × V). bytes_eq first p.0 ≡ false) (same_Some _ _ e) all.0
differs_at first name value (x ∷ es) (suc at) all e = differs_at first name value es at all.1 e

-- the entries up to one, and that one put after them
pub insert_next : {V : Type 0} (es : List (List ℕ × V)) (at : ℕ) (name : List ℕ) (value : V) → IsDistinct bytes_eq (map (λ (p : List ℕ × V). p.0) es) → slice_get es at ≡ Some (name, value)
    → insert_entry bytes_eq (take at es) name value ≡ take (suc at) es
unfolding IsDistinct
insert_next [] at name value unique e = absurd (none-some _ e)
insert_next {V} (x ∷ es) zero name value unique e = ap (λ (p : List ℕ × V). p ∷ []) (sym (same_Some _ _ e))
insert_next {V} (x ∷ es) (suc at) name value unique e =
    let other : bytes_eq name x.0 ≡ false = flip name x.0 (differs_at x.0 name value es at unique.0 e) in
    rw other (ap (λ (r : List (List ℕ × V)). x ∷ r) (insert_next es at name value unique.1 e))
