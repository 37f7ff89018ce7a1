-- Fragments as entries of a map, by link and end of range.
use Rattle.std.proofs.Common.{◌≡◌, ℕ, ◌<◌, ◌≤◌, inl, inr, Bool, true, false, cond, not, ◌&&◌, List, [], ◌∷◌, refl, sym, ap, subst, ◌∙◌, arith}
use Rattle.std.specs.Prelude.{filter, map, ◌==◌, nat_lt, nat_le}
use Rattle.std.specs.declared.cmp.Ordering.{Ordering}
use Rattle.std.specs.declared.cmp.Ordering.TheVariants.{Less, Equal, Greater}
use Rattle.std.specs.Ordering.{nat_cmp, ordering_then, ordering_reverse, match_ordering, is_eq, is_lt}
use Rattle.std.specs.Cmp.{IsTotalOrder}
use Rattle.std.specs.FinMap.{nat_cmp-IsAntisymmetric}
use Rattle.std.specs.BTreeMap.{insert_entry, is_at}
use Rattle.std.specs.Map.{keys_of, remove_entry}
use Rattle.std.specs.List.{Contains, AllByRecursion}
use Rattle.std.specs.List.Sorted.{IsStrictlySortedBy}
use Rattle.std.proofs.lemmas.Bool.Decides.{nat_tests}
use Rattle.std.proofs.lemmas.Cmp.{then_total, on_total, nat_cmp_total}
use Rattle.std.proofs.lemmas.List.Elements.{All-head, All-contains}
use Rattle.tl_beats.specs.Fragments.{Frag}
use Rattle.tl_definitions.specs.Positions.{Recorded}
use Rattle.tl_definitions.proofs.Lists.{contains_here, contains_there, all_of, all_by}
use Rattle.tl_definitions.proofs.OrderLaws.{then_less, tied, below}
use Rattle.tl_capture.specs.Present.{range_order, put_in, shares, IsCapture}
use Rattle.tl_capture.specs.Ranges.{Key, key_cmp, ends_at, without_end, shown, AreKeyed, AreEntries}
use Rattle.tl_capture.proofs.PresentLemmas.{less_cases, less_is, ranges_tail}

-- ---- orders

pub above : (m n : ℕ) → n < m → nat_cmp m n ≡ Greater
above m n h = nat_cmp_total.antisymm m n ∙ ap ordering_reverse (below n m h)

then_greater : (o r : Ordering) → o ≡ Greater → ordering_then o r ≡ Greater
then_greater Less r h = cc
then_greater Equal r h = cc
then_greater Greater r h = refl

pub tie_then : (o r : Ordering) → o ≡ Equal → ordering_then o r ≡ r
tie_then Less r h = cc
tie_then Equal r h = refl
tie_then Greater r h = cc

pub key_total : IsTotalOrder key_cmp
key_total = then_total (on_total (λ (k : Key). k.0) nat_cmp_total) (on_total (λ (k : Key). k.1) nat_cmp_total)

pub is_eq_then : (o r : Ordering) → is_eq (ordering_then o r) ≡ (is_eq o && is_eq r)
is_eq_then Less r = refl
is_eq_then Equal r = refl
is_eq_then Greater r = refl

pub eq_test : (m n : ℕ) → is_eq (nat_cmp m n) ≡ (n == m)
eq_test m n = elim (nat_lt m n) as (λ b. nat_lt m n ≡ b → is_eq (nat_cmp m n) ≡ (n == m)) [
  | true ↦ λ e. (let lt : m < n = grind (arith, nat_tests) in let no : (n == m) ≡ false = grind (arith, nat_tests) in ap is_eq (below m n lt) ∙ sym no)
  | false ↦ λ e. elim (nat_lt n m) as (λ b. nat_lt n m ≡ b → is_eq (nat_cmp m n) ≡ (n == m)) [
    | true ↦ λ g. (let lt : n < m = grind (arith, nat_tests) in let no : (n == m) ≡ false = grind (arith, nat_tests) in ap is_eq (above m n lt) ∙ sym no)
    | false ↦ λ g. (let same : m ≡ n = grind (arith, nat_tests) in let yes : (n == m) ≡ true = grind (arith, nat_tests) in ap is_eq (tied m n same) ∙ sym yes)
  ] refl
] refl

equal_from : (o : Ordering) → is_eq o ≡ true → o ≡ Equal
equal_from Less h = cc
equal_from Equal h = refl
equal_from Greater h = cc

pub all_kept : {X : Type 0} (p : X → Bool) (xs : List X) → ((x : X) → Contains xs x → p x ≡ true) → filter p xs ≡ xs
all_kept p [] f = refl
all_kept p (x ∷ xs) f = ap (λ b. cond b (x ∷ filter p xs) (filter p xs)) (f x (contains_here x xs)) ∙ ap (λ ys. x ∷ ys) (all_kept p xs (λ y h. f y (contains_there x xs y h)))

-- The order of the ends is that of the ranges, where these are apart.
pub ends_order : {X : Type 0} (f g : Recorded) (a b c : X) → f.first ≤ f.last → g.first ≤ g.last → shares f.link f.first f.last g ≡ false
    → match_ordering (ordering_then (nat_cmp f.link g.link) (nat_cmp f.last g.last)) a b c ≡ cond (is_lt (range_order f g)) a c
ends_order f g a b c own other free = elim (nat_lt f.link g.link) as (λ t. nat_lt f.link g.link ≡ t → match_ordering (ordering_then (nat_cmp f.link g.link) (nat_cmp f.last g.last)) a b c ≡ cond (is_lt (range_order f g)) a c) [
  | true ↦ λ e. (let lt : f.link < g.link = grind (arith, nat_tests) in let low = below f.link g.link lt in
      ap (λ o. match_ordering o a b c) (then_less (nat_cmp f.link g.link) (nat_cmp f.last g.last) low) ∙ sym (ap (λ o. cond (is_lt o) a c) (then_less (nat_cmp f.link g.link) (nat_cmp f.last g.first) low)))
  | false ↦ λ e. elim (nat_lt g.link f.link) as (λ t. nat_lt g.link f.link ≡ t → match_ordering (ordering_then (nat_cmp f.link g.link) (nat_cmp f.last g.last)) a b c ≡ cond (is_lt (range_order f g)) a c) [
    | true ↦ λ h. (let lt : g.link < f.link = grind (arith, nat_tests) in let high = above f.link g.link lt in
        ap (λ o. match_ordering o a b c) (then_greater (nat_cmp f.link g.link) (nat_cmp f.last g.last) high) ∙ sym (ap (λ o. cond (is_lt o) a c) (then_greater (nat_cmp f.link g.link) (nat_cmp f.last g.first) high)))
    | false ↦ λ h. (let same : f.link ≡ g.link = grind (arith, nat_tests) in let tie = tied f.link g.link same in
        let ends = tie_then (nat_cmp f.link g.link) (nat_cmp f.last g.last) tie in let range = tie_then (nat_cmp f.link g.link) (nat_cmp f.last g.first) tie in
        elim (nat_lt f.last g.first) as (λ t. nat_lt f.last g.first ≡ t → match_ordering (ordering_then (nat_cmp f.link g.link) (nat_cmp f.last g.last)) a b c ≡ cond (is_lt (range_order f g)) a c) [
          | true ↦ λ l. (let lt : f.last < g.first = grind (arith, nat_tests) in
              ap (λ o. match_ordering o a b c) (ends ∙ below f.last g.last (omega arith)) ∙ sym (ap (λ o. cond (is_lt o) a c) (range ∙ below f.last g.first lt)))
          | false ↦ λ l. (let le : g.first ≤ f.last = grind (arith, nat_tests) in
              let past : nat_le f.first g.last ≡ false = grind (arith, nat_tests) in
              let lt : g.last < f.first = grind (arith, nat_tests) in
              ap (λ o. match_ordering o a b c) (ends ∙ above f.last g.last (omega arith)) ∙ sym (ap (λ o. cond (is_lt o) a c) (range ∙ above f.last g.first (omega arith))))
        ] refl)
  ] refl
] refl

-- ---- keys

low_keys : (k q : Key) (ks : List Key) → key_cmp k q ≡ Less → AllByRecursion (λ x. key_cmp q x ≡ Less) ks → AllByRecursion (λ x. key_cmp k x ≡ Less) ks
low_keys k q ks less above_q = all_by (λ x. key_cmp k x ≡ Less) ks (λ x h. key_total.trans k q x less (all_of (λ y. key_cmp q y ≡ Less) ks above_q x h))

same_keys : (k q : Key) (ks : List Key) → key_cmp k q ≡ Equal → AllByRecursion (λ x. key_cmp q x ≡ Less) ks → AllByRecursion (λ x. key_cmp k x ≡ Less) ks
same_keys k q ks tie above_q = all_by (λ x. key_cmp k x ≡ Less) ks (λ x h. key_total.congr k q x tie ∙ all_of (λ y. key_cmp q y ≡ Less) ks above_q x h)

key_same : (k q : Key) → key_cmp k q ≡ Equal → k ≡ q
key_same k q tie =
    let both = is_eq_then (nat_cmp k.0 q.0) (nat_cmp k.1 q.1) in
    let yes : (is_eq (nat_cmp k.0 q.0) && is_eq (nat_cmp k.1 q.1)) ≡ true = sym both ∙ ap is_eq tie in
    let first : k.0 ≡ q.0 = nat_cmp-IsAntisymmetric k.0 q.0 (equal_from (nat_cmp k.0 q.0) (left_true (is_eq (nat_cmp k.0 q.0)) (is_eq (nat_cmp k.1 q.1)) yes)) in
    let second : k.1 ≡ q.1 = nat_cmp-IsAntisymmetric k.1 q.1 (equal_from (nat_cmp k.1 q.1) (right_true (is_eq (nat_cmp k.0 q.0)) (is_eq (nat_cmp k.1 q.1)) yes)) in
    ap (λ n. (n, k.1)) first ∙ ap (λ n. (q.0, n)) second
  where
    left_true : (s t : Bool) → (s && t) ≡ true → s ≡ true
    left_true true t h = refl
    left_true false t h = cc

    right_true : (s t : Bool) → (s && t) ≡ true → t ≡ true
    right_true true t h = h
    right_true false t h = cc

-- ---- entries of any map

module _ {V : Type 0} where
  insert_low : (k : Key) (v : V) (es : List (Key × V)) → AllByRecursion (λ q. key_cmp k q ≡ Less) (keys_of es) → insert_entry key_cmp es k v ≡ (k, v) ∷ es
  insert_low k v [] a = refl
  insert_low k v (e ∷ es) a = ap (λ o. match_ordering o ((k, v) ∷ e ∷ es) ((e.0, v) ∷ es) (e ∷ insert_entry key_cmp es k v)) a.0

  remove_low : (k : Key) (es : List (Key × V)) → AllByRecursion (λ q. key_cmp k q ≡ Less) (keys_of es) → remove_entry (is_at (key_cmp k)) es ≡ es
  remove_low k [] a = refl
  remove_low k (e ∷ es) a = ap (λ o. cond (is_eq o) es (e ∷ remove_entry (is_at (key_cmp k)) es)) a.0 ∙ ap (λ xs. e ∷ xs) (remove_low k es a.1)

  -- An entry that comes and another that goes, in either order.
  pub swapped : (k q : Key) (v : V) (es : List (Key × V)) → is_at (key_cmp q) k ≡ false → IsStrictlySortedBy key_cmp (keys_of es)
      → remove_entry (is_at (key_cmp q)) (insert_entry key_cmp es k v) ≡ insert_entry key_cmp (remove_entry (is_at (key_cmp q)) es) k v
  unfolding IsStrictlySortedBy
  swapped k q v [] apart s = ap (λ t. cond t [] ((k, v) ∷ [])) apart
  swapped k q v (e ∷ es) apart s = elim (is_at (key_cmp q) e.0) as (λ t. is_at (key_cmp q) e.0 ≡ t
      → remove_entry (is_at (key_cmp q)) (match_ordering (key_cmp k e.0) ((k, v) ∷ e ∷ es) ((e.0, v) ∷ es) (e ∷ insert_entry key_cmp es k v))
      ≡ insert_entry key_cmp (cond t es (e ∷ remove_entry (is_at (key_cmp q)) es)) k v) [
        | true ↦ λ at. elim (key_cmp k e.0) as (λ o. key_cmp k e.0 ≡ o → remove_entry (is_at (key_cmp q)) (match_ordering o ((k, v) ∷ e ∷ es) ((e.0, v) ∷ es) (e ∷ insert_entry key_cmp es k v)) ≡ insert_entry key_cmp es k v) [
          | Less ↦ λ less. ap (λ t. cond t (e ∷ es) ((k, v) ∷ cond (is_at (key_cmp q) e.0) es (e ∷ remove_entry (is_at (key_cmp q)) es))) apart
              ∙ ap (λ t. (k, v) ∷ cond t es (e ∷ remove_entry (is_at (key_cmp q)) es)) at ∙ sym (insert_low k v es (low_keys k e.0 (keys_of es) less s.0))
          | Equal ↦ λ tie. (let there : key_cmp q e.0 ≡ Equal = equal_from (key_cmp q e.0) at in
              let back : key_cmp e.0 q ≡ Equal = key_total.antisymm e.0 q ∙ ap ordering_reverse there in
              let here : key_cmp k q ≡ Equal = key_total.congr k e.0 q tie ∙ back in
              let wrong : key_cmp q k ≡ Equal = key_total.antisymm q k ∙ ap ordering_reverse here in
              let no : true ≡ false = sym (ap is_eq wrong) ∙ apart in cc)
          | Greater ↦ λ more. ap (λ t. cond t (insert_entry key_cmp es k v) (e ∷ remove_entry (is_at (key_cmp q)) (insert_entry key_cmp es k v))) at
        ] refl
        | false ↦ λ at. elim (key_cmp k e.0) as (λ o. remove_entry (is_at (key_cmp q)) (match_ordering o ((k, v) ∷ e ∷ es) ((e.0, v) ∷ es) (e ∷ insert_entry key_cmp es k v))
            ≡ match_ordering o ((k, v) ∷ e ∷ remove_entry (is_at (key_cmp q)) es) ((e.0, v) ∷ remove_entry (is_at (key_cmp q)) es) (e ∷ insert_entry key_cmp (remove_entry (is_at (key_cmp q)) es) k v)) [
              | Less ↦ ap (λ t. cond t (e ∷ es) ((k, v) ∷ cond (is_at (key_cmp q) e.0) es (e ∷ remove_entry (is_at (key_cmp q)) es))) apart
                  ∙ ap (λ t. (k, v) ∷ cond t es (e ∷ remove_entry (is_at (key_cmp q)) es)) at
              | Equal ↦ ap (λ t. cond t es ((e.0, v) ∷ remove_entry (is_at (key_cmp q)) es)) at
              | Greater ↦ ap (λ t. cond t (insert_entry key_cmp es k v) (e ∷ remove_entry (is_at (key_cmp q)) (insert_entry key_cmp es k v))) at ∙ ap (λ xs. e ∷ xs) (swapped k q v es apart s.1)
            ]
      ] refl

  -- An entry that comes over the one of its key.
  pub over : (k : Key) (v : V) (es : List (Key × V)) → IsStrictlySortedBy key_cmp (keys_of es) → insert_entry key_cmp es k v ≡ insert_entry key_cmp (remove_entry (is_at (key_cmp k)) es) k v
  unfolding IsStrictlySortedBy
  over k v [] s = refl
  over k v (e ∷ es) s = elim (key_cmp k e.0) as (λ o. key_cmp k e.0 ≡ o → match_ordering o ((k, v) ∷ e ∷ es) ((e.0, v) ∷ es) (e ∷ insert_entry key_cmp es k v)
      ≡ insert_entry key_cmp (cond (is_eq o) es (e ∷ remove_entry (is_at (key_cmp k)) es)) k v) [
        | Less ↦ λ less. ap (λ xs. (k, v) ∷ e ∷ xs) (sym (remove_low k es (low_keys k e.0 (keys_of es) less s.0)))
            ∙ sym (ap (λ o. match_ordering o ((k, v) ∷ e ∷ remove_entry (is_at (key_cmp k)) es) ((e.0, v) ∷ remove_entry (is_at (key_cmp k)) es) (e ∷ insert_entry key_cmp (remove_entry (is_at (key_cmp k)) es) k v)) less)
        | Equal ↦ λ tie. ap (λ x. (x, v) ∷ es) (sym (key_same k e.0 tie)) ∙ sym (insert_low k v es (same_keys k e.0 (keys_of es) tie s.0))
        | Greater ↦ λ more. ap (λ xs. e ∷ xs) (over k v es s.1)
            ∙ sym (ap (λ o. match_ordering o ((k, v) ∷ e ∷ remove_entry (is_at (key_cmp k)) es) ((e.0, v) ∷ remove_entry (is_at (key_cmp k)) es) (e ∷ insert_entry key_cmp (remove_entry (is_at (key_cmp k)) es) k v)) more)
      ] refl

-- ---- what the entries show

module _ {V : Type 0} (value : V → Frag) where
  pub entries_tail : (e : Key × V) (es : List (Key × V)) → AreEntries value (e ∷ es) → AreEntries value es
  entries_tail e es are = record { keyed = are.keyed.1; ranges = ranges_tail (shown value e) (map (shown value) es) are.ranges }

  pub at_ends : (link last : ℕ) (e : Key × V) → e.0.1 ≡ (value e.1).last → is_at (key_cmp (link, last)) e.0 ≡ ends_at link last (shown value e)
  at_ends link last e keyed = is_eq_then (nat_cmp link e.0.0) (nat_cmp last e.0.1) ∙ ap (λ t. t && is_eq (nat_cmp last e.0.1)) (eq_test link e.0.0)
      ∙ ap (λ t. (e.0.0 == link) && t) (eq_test last e.0.1) ∙ ap (λ n. (e.0.0 == link) && (n == last)) keyed

  -- Those after a fragment end elsewhere.
  ends_apart : (link last : ℕ) (f g : Recorded) → g.first ≤ g.last → range_order f g ≡ Less → ends_at link last f ≡ true → not (ends_at link last g) ≡ true
  ends_apart link last f g order less at = elim (less_cases (nat_cmp f.link g.link) (nat_cmp f.last g.first) less) [
    | inl by_link ↦ (let lt = less_is f.link g.link by_link in grind (arith, nat_tests))
    | inr by_range ↦ (let lt = less_is f.last g.first by_range.1 in let up : f.last < g.last = omega arith in grind (arith, nat_tests))
  ]

  pub shown_remove : (link last : ℕ) (es : List (Key × V)) → AreEntries value es → map (shown value) (remove_entry (is_at (key_cmp (link, last))) es) ≡ without_end link last (map (shown value) es)
  unfolding IsStrictlySortedBy
  shown_remove link last [] are = refl
  shown_remove link last (e ∷ es) are =
      let rest = map (shown value) es in
      elim (ends_at link last (shown value e)) as (λ t. ends_at link last (shown value e) ≡ t
      → map (shown value) (cond (is_at (key_cmp (link, last)) e.0) es (e ∷ remove_entry (is_at (key_cmp (link, last))) es)) ≡ cond (not t) (shown value e ∷ without_end link last rest) (without_end link last rest)) [
        | true ↦ λ at. ap (λ t. map (shown value) (cond t es (e ∷ remove_entry (is_at (key_cmp (link, last))) es))) (at_ends link last e are.keyed.0 ∙ at)
            ∙ sym (all_kept (λ f. not (ends_at link last f)) rest (λ g h. ends_apart link last (shown value e) g (All-contains IsCapture (shown value e ∷ rest) g are.ranges.each (contains_there (shown value e) rest g h)).order
            (all_of (λ x. range_order (shown value e) x ≡ Less) rest are.ranges.apart.0 g h) at))
        | false ↦ λ at. ap (λ t. map (shown value) (cond t es (e ∷ remove_entry (is_at (key_cmp (link, last))) es))) (at_ends link last e are.keyed.0 ∙ at)
            ∙ ap (λ fs. shown value e ∷ fs) (shown_remove link last es (entries_tail e es are))
      ] refl

  pub shown_insert : (k : Key) (v : V) (es : List (Key × V)) → k.1 ≡ (value v).last → (value v).first ≤ (value v).last → AreEntries value es
      → AllByRecursion (λ g. shares k.0 (value v).first (value v).last g ≡ false) (map (shown value) es) → map (shown value) (insert_entry key_cmp es k v) ≡ put_in (shown value (k, v)) (map (shown value) es)
  shown_insert k v [] is order are free = refl
  shown_insert k v (e ∷ es) is order are free =
      let f : Recorded = shown value (k, v) in
      let g : Recorded = shown value e in
      let rest = map (shown value) es in
      let own = All-head IsCapture g rest are.ranges.each in
      mapped_match (key_cmp k e.0) e es k v
      ∙ ap (λ m. match_ordering (ordering_then (nat_cmp k.0 e.0.0) (nat_cmp m e.0.1)) (f ∷ g ∷ rest) (f_at e v ∷ rest) (g ∷ map (shown value) (insert_entry key_cmp es k v))) is
      ∙ ap (λ m. match_ordering (ordering_then (nat_cmp k.0 e.0.0) (nat_cmp (value v).last m)) (f ∷ g ∷ rest) (f_at e v ∷ rest) (g ∷ map (shown value) (insert_entry key_cmp es k v))) are.keyed.0
      ∙ ends_order f g (f ∷ g ∷ rest) (f_at e v ∷ rest) (g ∷ map (shown value) (insert_entry key_cmp es k v)) order own.order free.0
      ∙ ap (λ xs. cond (is_lt (range_order f g)) (f ∷ g ∷ rest) (g ∷ xs)) (shown_insert k v es is order (entries_tail e es are) free.1)
    where
      f_at : Key × V → V → Recorded
      f_at e v = shown value (e.0, v)

      mapped_match : (o : Ordering) (e : Key × V) (es : List (Key × V)) (k : Key) (v : V) → map (shown value) (match_ordering o ((k, v) ∷ e ∷ es) ((e.0, v) ∷ es) (e ∷ insert_entry key_cmp es k v))
          ≡ match_ordering o (shown value (k, v) ∷ shown value e ∷ map (shown value) es) (shown value (e.0, v) ∷ map (shown value) es) (shown value e ∷ map (shown value) (insert_entry key_cmp es k v))
      mapped_match Less e es k v = refl
      mapped_match Equal e es k v = refl
      mapped_match Greater e es k v = refl

  -- ---- keys of entries

  pub keyed_insert : (k : Key) (v : V) (es : List (Key × V)) → k.1 ≡ (value v).last → AreKeyed value es → AreKeyed value (insert_entry key_cmp es k v)
  keyed_insert k v [] is keyed = (is, tt)
  keyed_insert k v (e ∷ es) is keyed = elim (key_cmp k e.0) as (λ o. key_cmp k e.0 ≡ o → AreKeyed value (match_ordering o ((k, v) ∷ e ∷ es) ((e.0, v) ∷ es) (e ∷ insert_entry key_cmp es k v))) [
    | Less ↦ λ h. (is, keyed)
    | Equal ↦ λ h. (subst (λ (q : Key). q.1 ≡ (value v).last) (key_same k e.0 h) is, keyed.1)
    | Greater ↦ λ h. (keyed.0, keyed_insert k v es is keyed.1)
  ] refl

  pub keyed_remove : (test : Key → Bool) (es : List (Key × V)) → AreKeyed value es → AreKeyed value (remove_entry test es)
  keyed_remove test [] keyed = tt
  keyed_remove test (e ∷ es) keyed = elim (test e.0) as (λ t. AreKeyed value (cond t es (e ∷ remove_entry test es))) [ true ↦ keyed.1 | false ↦ (keyed.0, keyed_remove test es keyed.1) ]
