-- What a key's place says of entries in key order.
use Rattle.std.proofs.Common.{◌≡◌, ℕ, zero, suc, ◌+◌, ◌<◌, false, List, [], ◌∷◌, ◌++◌, length, get_or, take, drop, refl, sym, ap, ◌∙◌, subst, arith, Ordering, Less, Equal, Greater, is_gt, true≢false}
use Rattle.std.specs.List.{AllByRecursion}
use Rattle.std.specs.List.Sorted.{IsStrictlySortedBy}
use Rattle.std.specs.Cmp.{IsTotalOrder}
use Rattle.std.specs.Ordering.{ordering_reverse}
use Rattle.std.specs.Map.{keys_of}
use Rattle.std.proofs.lemmas.List.{drop_more, take_more, take-append-drop}
use Rattle.tl_state.specs.KeyOrder.{Below, Rises, Reaches}

-- what is below an entry that stands before the key stands before it too
over : {K : Type 0} {cmp : K → K → Ordering} → IsTotalOrder cmp → (k x y : K) → cmp x y ≡ Less → cmp k y ≡ Greater → cmp k x ≡ Greater
over {cmp = cmp} total k x y lt gt =
    let back : cmp y k ≡ Less = total.antisymm y k ∙ ap ordering_reverse gt in
    total.antisymm k x ∙ ap ordering_reverse (total.trans x y k lt back)

reach : {K V : Type 0} (P : K → Type 0) (xs : List (K × V)) (e : K × V) (ys : List (K × V)) → AllByRecursion P (keys_of (xs ++ e ∷ ys)) → P e.0
reach P [] e ys a = a.0
reach P (x ∷ xs) e ys a = reach P xs e ys a.1

module _ {K V : Type 0} {cmp : K → K → Ordering} (total : IsTotalOrder cmp) where
  pub below_prefix : (k : K) (xs : List (K × V)) (e : K × V) (ys : List (K × V)) → Rises cmp (xs ++ e ∷ ys) → cmp k e.0 ≡ Greater → Below cmp k (xs ++ e ∷ [])
  unfolding IsStrictlySortedBy
  below_prefix k [] e ys s g = (g, tt)
  below_prefix k (x ∷ xs) e ys s g = (over total k x.0 e.0 (reach (λ y. cmp x.0 y ≡ Less) xs e ys s.0) g, below_prefix k xs e ys s.1 g)

  -- the entries up to one that stands before the key
  pub below_through : (k : K) (es : List (K × V)) (i : ℕ) (e : K × V) → i < length es → e ≡ get_or es i e → Rises cmp es → cmp k e.0 ≡ Greater → Below cmp k (take (i + 1) es)
  below_through k es i e inside is s g =
      let whole : take i es ++ e ∷ drop (i + 1) es ≡ es = ap (λ x. take i es ++ x ∷ drop (i + 1) es) is ∙ ap (λ t. take i es ++ t) (sym (drop_more es i e inside)) ∙ take-append-drop i es in
      let front : take i es ++ e ∷ [] ≡ take (i + 1) es = ap (λ x. take i es ++ x ∷ []) is ∙ sym (take_more es i e inside) in
      subst (Below cmp k) front (below_prefix k (take i es) e (drop (i + 1) es) (subst (Rises cmp) (sym whole) s) g)

-- ---- parts of entries in order

rises_left_all : {K V : Type 0} (P : K → Type 0) (xs ys : List (K × V)) → AllByRecursion P (keys_of (xs ++ ys)) → AllByRecursion P (keys_of xs)
rises_left_all P [] ys a = tt
rises_left_all P (x ∷ xs) ys a = (a.0, rises_left_all P xs ys a.1)

pub rises_left : {K V : Type 0} (cmp : K → K → Ordering) (xs ys : List (K × V)) → Rises cmp (xs ++ ys) → Rises cmp xs
unfolding IsStrictlySortedBy
rises_left cmp [] ys s = tt
rises_left cmp (x ∷ xs) ys s = (rises_left_all (λ y. cmp x.0 y ≡ Less) xs ys s.0, rises_left cmp xs ys s.1)

pub rises_right : {K V : Type 0} (cmp : K → K → Ordering) (xs ys : List (K × V)) → Rises cmp (xs ++ ys) → Rises cmp ys
unfolding IsStrictlySortedBy
rises_right cmp [] ys s = s
rises_right cmp (x ∷ xs) ys s = rises_right cmp xs ys s.1

pub below_both : {K V : Type 0} (cmp : K → K → Ordering) (k : K) (xs ys : List (K × V)) → Below cmp k xs → Below cmp k ys → Below cmp k (xs ++ ys)
below_both cmp k [] ys a b = b
below_both cmp k (x ∷ xs) ys a b = (a.0, below_both cmp k xs ys a.1 b)

-- ---- the last entry

pub reaches_at : {K V : Type 0} (cmp : K → K → Ordering) (k : K) (es : List (K × V)) (n : ℕ) (e : K × V) → length es ≡ suc n → e ≡ get_or es n e → is_gt (cmp k e.0) ≡ false → Reaches cmp k es
reaches_at cmp k [] n e count is g = absurd (omega arith)
reaches_at cmp k (x ∷ []) zero e count is g = ap (λ y. is_gt (cmp k y.0)) (sym is) ∙ g
reaches_at cmp k (x ∷ []) (suc n) e count is g = absurd (omega arith)
reaches_at cmp k (x ∷ y ∷ es) zero e count is g = absurd (omega arith)
reaches_at cmp k (x ∷ y ∷ es) (suc n) e count is g = reaches_at cmp k (y ∷ es) n e (omega arith) is g

pub below_no_reach : {K V : Type 0} (cmp : K → K → Ordering) (k : K) (es : List (K × V)) → Below cmp k es → Reaches cmp k es → ⊥
below_no_reach cmp k [] a r = r
below_no_reach cmp k (e ∷ []) a r = true≢false (sym (ap is_gt a.0) ∙ r)
below_no_reach cmp k (e ∷ f ∷ es) a r = below_no_reach cmp k (f ∷ es) a.1 r

pub not_gt : (r : Ordering) → (r ≡ Greater → ⊥) → is_gt r ≡ false
not_gt Less h = refl
not_gt Equal h = refl
not_gt Greater h = absurd (h refl)
