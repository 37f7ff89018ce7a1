-- Edits of entries in key order, at the place of a key.
use Rattle.std.proofs.Common.{◌≡◌, Bool, true, false, cond, List, [], ◌∷◌, ◌++◌, Option, Some, None, refl, sym, ap, ◌∙◌, subst, Ordering, Less, Equal, Greater, is_gt, is_eq, true≢false}
use Rattle.std.specs.List.{AllByRecursion}
use Rattle.std.specs.List.Sorted.{IsStrictlySortedBy}
use Rattle.std.specs.Cmp.{IsTotalOrder}
use Rattle.std.specs.Ordering.{ordering_reverse, match_ordering}
use Rattle.std.specs.BTreeMap.{insert_entry, is_at}
use Rattle.std.specs.Map.{keys_of, lookup, remove_entry}
use Rattle.std.proofs.lemmas.Cmp.{eq_by_cmp_equiv}
use Rattle.std.proofs.lemmas.Map.{lookup-none, lookup-remove_entry}
use Rattle.std.proofs.lemmas.Map.Entries.{none_below_head}
use Rattle.std.proofs.lemmas.Map.Keys.{IsDistinct-from_sorted}
use Rattle.tl_state.specs.KeyOrder.{Below, Rises}
use Rattle.tl_state.specs.Map.{value_at, Sets}

pub by_cmp : {P : Type 0} (r : Ordering) → (r ≡ Less → P) → (r ≡ Equal → P) → (r ≡ Greater → P) → P
by_cmp Less a b c = a refl
by_cmp Equal a b c = b refl
by_cmp Greater a b c = c refl

pub by_bool : {P : Type 0} (b : Bool) → (b ≡ true → P) → (b ≡ false → P) → P
by_bool true t f = t refl
by_bool false t f = f refl

module _ {K V : Type 0} (cmp : K → K → Ordering) (k : K) where
  -- ---- the entries before the place stay

  pub insert_over : (v : V) (xs ys : List (K × V)) → Below cmp k xs → insert_entry cmp (xs ++ ys) k v ≡ xs ++ insert_entry cmp ys k v
  insert_over v [] ys b = refl
  insert_over v (x ∷ xs) ys b =
      ap (λ o. match_ordering o ((k, v) ∷ x ∷ (xs ++ ys)) ((x.0, v) ∷ (xs ++ ys)) (x ∷ insert_entry cmp (xs ++ ys) k v)) b.0 ∙ ap (λ t. x ∷ t) (insert_over v xs ys b.1)

  pub remove_over : (xs ys : List (K × V)) → Below cmp k xs → remove_entry (is_at (cmp k)) (xs ++ ys) ≡ xs ++ remove_entry (is_at (cmp k)) ys
  remove_over [] ys b = refl
  remove_over (x ∷ xs) ys b =
      ap (λ o. cond (is_eq o) (xs ++ ys) (x ∷ remove_entry (is_at (cmp k)) (xs ++ ys))) b.0 ∙ ap (λ t. x ∷ t) (remove_over xs ys b.1)

  pub value_over : (xs ys : List (K × V)) → Below cmp k xs → value_at cmp (xs ++ ys) k ≡ value_at cmp ys k
  value_over [] ys b = refl
  value_over (x ∷ xs) ys b = ap (λ o. cond (is_eq o) (Some x.1) (lookup (is_at (cmp k)) (xs ++ ys))) b.0 ∙ value_over xs ys b.1

  -- ---- at the place

  module _ (e : K × V) (es : List (K × V)) (here : cmp k e.0 ≡ Equal) where
    pub insert_here : (v : V) → insert_entry cmp (e ∷ es) k v ≡ (e.0, v) ∷ es
    insert_here v = ap (λ o. match_ordering o ((k, v) ∷ e ∷ es) ((e.0, v) ∷ es) (e ∷ insert_entry cmp es k v)) here

    pub remove_here : remove_entry (is_at (cmp k)) (e ∷ es) ≡ es
    remove_here = ap (λ o. cond (is_eq o) es (e ∷ remove_entry (is_at (cmp k)) es)) here

    pub value_here : value_at cmp (e ∷ es) k ≡ Some e.1
    value_here = ap (λ o. cond (is_eq o) (Some e.1) (lookup (is_at (cmp k)) es)) here

  pub insert_before : (v : V) (e : K × V) (es : List (K × V)) → cmp k e.0 ≡ Less → insert_entry cmp (e ∷ es) k v ≡ (k, v) ∷ e ∷ es
  insert_before v e es lt = ap (λ o. match_ordering o ((k, v) ∷ e ∷ es) ((e.0, v) ∷ es) (e ∷ insert_entry cmp es k v)) lt

  pub remove_absent : (es : List (K × V)) → value_at cmp es k ≡ None → remove_entry (is_at (cmp k)) es ≡ es
  remove_absent [] h = refl
  remove_absent (e ∷ es) h = by_bool (is_eq (cmp k e.0))
      (λ t. cc)
      (λ f. ap (λ b. cond b es (e ∷ remove_entry (is_at (cmp k)) es)) f ∙ ap (λ t. e ∷ t) (remove_absent es (sym (ap (λ b. cond b (Some e.1) (lookup (is_at (cmp k)) es)) f) ∙ h)))

-- what is neither above nor equal is below
pub is_less : (r : Ordering) → is_gt r ≡ false → (r ≡ Equal → ⊥) → r ≡ Less
is_less Less g h = refl
is_less Equal g h = absurd (h refl)
is_less Greater g h = absurd (true≢false g)

-- ---- the keys rise after an edit

module _ {K V : Type 0} where
  same_keys : (xs : List (K × V)) (e : K × V) (v : V) (ys : List (K × V)) → keys_of (xs ++ e ∷ ys) ≡ keys_of (xs ++ (e.0, v) ∷ ys)
  same_keys [] e v ys = refl
  same_keys (x ∷ xs) e v ys = ap (λ t. x.0 ∷ t) (same_keys xs e v ys)

  pub rises_replace : (cmp : K → K → Ordering) (xs : List (K × V)) (e : K × V) (v : V) (ys : List (K × V)) → Rises cmp (xs ++ e ∷ ys) → Rises cmp (xs ++ (e.0, v) ∷ ys)
  rises_replace cmp xs e v ys s = subst (IsStrictlySortedBy cmp) (same_keys xs e v ys) s

  all_with : (P : K → Type 0) (xs : List (K × V)) (e : K × V) (ys : List (K × V)) → P e.0 → AllByRecursion P (keys_of (xs ++ ys)) → AllByRecursion P (keys_of (xs ++ e ∷ ys))
  all_with P [] e ys p a = (p, a)
  all_with P (x ∷ xs) e ys p a = (a.0, all_with P xs e ys p a.1)

  all_without : (P : K → Type 0) (xs : List (K × V)) (e : K × V) (ys : List (K × V)) → AllByRecursion P (keys_of (xs ++ e ∷ ys)) → AllByRecursion P (keys_of (xs ++ ys))
  all_without P [] e ys a = a.1
  all_without P (x ∷ xs) e ys a = (a.0, all_without P xs e ys a.1)

  pub rises_remove : (cmp : K → K → Ordering) (xs : List (K × V)) (e : K × V) (ys : List (K × V)) → Rises cmp (xs ++ e ∷ ys) → Rises cmp (xs ++ ys)
  unfolding IsStrictlySortedBy
  rises_remove cmp [] e ys s = s.1
  rises_remove cmp (x ∷ xs) e ys s = (all_without (λ y. cmp x.0 y ≡ Less) xs e ys s.0, rises_remove cmp xs e ys s.1)

module _ {K V : Type 0} {cmp : K → K → Ordering} (total : IsTotalOrder cmp) (k : K) (v : V) where
  pub rises_insert : (xs ys : List (K × V)) → Below cmp k xs → Rises cmp ((k, v) ∷ ys) → Rises cmp (xs ++ ys) → Rises cmp (xs ++ (k, v) ∷ ys)
  unfolding IsStrictlySortedBy
  rises_insert [] ys b front s = front
  rises_insert (x ∷ xs) ys b front s =
      (all_with (λ y. cmp x.0 y ≡ Less) xs (k, v) ys (total.antisymm x.0 k ∙ ap ordering_reverse b.0) s.0, rises_insert xs ys b.1 front s.1)

all_above : {K V : Type 0} {cmp : K → K → Ordering} (total : IsTotalOrder cmp) (k x : K) → cmp k x ≡ Less → (ys : List (K × V)) → AllByRecursion (λ y. cmp x y ≡ Less) (keys_of ys) → AllByRecursion (λ y. cmp k y ≡ Less) (keys_of ys)
all_above total k x lt [] a = tt
all_above total k x lt (y ∷ ys) a = (total.trans k x y.0 lt a.0, all_above total k x lt ys a.1)

pub rises_first : {K V : Type 0} {cmp : K → K → Ordering} (total : IsTotalOrder cmp) (k : K) (v : V) (e : K × V) (es : List (K × V)) → cmp k e.0 ≡ Less → Rises cmp (e ∷ es) → Rises cmp ((k, v) ∷ e ∷ es)
unfolding IsStrictlySortedBy
rises_first total k v e es lt s = ((lt, all_above total k e.0 lt es s.0), s)

pub rises_alone : {K V : Type 0} (cmp : K → K → Ordering) (e : K × V) → Rises cmp (e ∷ [])
unfolding IsStrictlySortedBy
rises_alone cmp e = (tt, tt)

pub value_before : {K V : Type 0} {cmp : K → K → Ordering} (total : IsTotalOrder cmp) (k : K) (e : K × V) (es : List (K × V)) → cmp k e.0 ≡ Less → Rises cmp (e ∷ es) → value_at cmp (e ∷ es) k ≡ None
value_before {cmp = cmp} total k e es lt s = lookup-none (is_at (cmp k)) (e ∷ es) (none_below_head total k e es s lt)

-- ---- what each key has after an edit

module _ {K V : Type 0} {cmp : K → K → Ordering} (total : IsTotalOrder cmp) (k : K) (v : V) where
  flip : (q : K) → is_eq (cmp q k) ≡ is_eq (cmp k q)
  flip q = (eq_by_cmp_equiv total).symm q k

  -- the values at q, where the first entry is replaced
  at_same : (e : K × V) (es : List (K × V)) (q : K) → cmp k e.0 ≡ Equal → (b : Bool) → is_eq (cmp q e.0) ≡ b → cond b (Some v) (value_at cmp es q) ≡ cond (is_eq (cmp k q)) (Some v) (cond b (Some e.1) (value_at cmp es q))
  at_same e es q here b is =
      let same : is_eq (cmp k q) ≡ b = ap is_eq (total.congr k e.0 q here) ∙ (eq_by_cmp_equiv total).symm e.0 q ∙ is in
      twice b ∙ sym (ap (λ c. cond c (Some v) (cond b (Some e.1) (value_at cmp es q))) same)
    where
      twice : (b : Bool) → cond b (Some v) (value_at cmp es q) ≡ cond b (Some v) (cond b (Some e.1) (value_at cmp es q))
      twice true = refl
      twice false = refl

  -- and where an edit is further on
  at_later : (e : K × V) (rest : Option V) (q : K) → cmp k e.0 ≡ Greater → (b : Bool) → is_eq (cmp q e.0) ≡ b → (c : Bool) → is_eq (cmp k q) ≡ c → cond b (Some e.1) (cond c (Some v) rest) ≡ cond c (Some v) (cond b (Some e.1) rest)
  at_later e rest q gt true x true y = absurd (true≢false (sym ((eq_by_cmp_equiv total).congr k q e.0 y ∙ x) ∙ ap is_eq gt))
  at_later e rest q gt true x false y = refl
  at_later e rest q gt false x c y = refl

  pub sets_insert : (es : List (K × V)) → Sets cmp es (insert_entry cmp es k v) k (Some v)
  sets_insert [] q = ap (λ b. cond b (Some v) None) (flip q)
  sets_insert (e ∷ es) q = by_cmp (cmp k e.0)
      (λ lt. ap (λ t. value_at cmp t q) (insert_before cmp k v e es lt) ∙ ap (λ b. cond b (Some v) (value_at cmp (e ∷ es) q)) (flip q))
      (λ eq. ap (λ t. value_at cmp t q) (insert_here cmp k e es eq v) ∙ at_same e es q eq (is_eq (cmp q e.0)) refl)
      (λ gt. ap (λ t. value_at cmp t q) (insert_over cmp k v (e ∷ []) es (gt, tt)) ∙ ap (λ t. cond (is_eq (cmp q e.0)) (Some e.1) t) (sets_insert es q) ∙ at_later e (value_at cmp es q) q gt (is_eq (cmp q e.0)) refl (is_eq (cmp k q)) refl)

pub sets_remove : {K V : Type 0} {cmp : K → K → Ordering} (total : IsTotalOrder cmp) (k : K) (es : List (K × V)) → Rises cmp es → Sets cmp es (remove_entry (is_at (cmp k)) es) k None
sets_remove {cmp = cmp} total k es s q =
    lookup-remove_entry (eq_by_cmp_equiv total) (is_at (cmp k)) (λ x y t. (eq_by_cmp_equiv total).congr k x y t) q es (IsDistinct-from_sorted cmp (keys_of es) s)
