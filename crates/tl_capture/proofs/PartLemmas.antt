-- Beats as they lie in shared fragments, and lists that are put in order.
use Rattle.std.proofs.Common.{◌≡◌, ℕ, ◌+◌, ◌<◌, ◌≤◌, inl, inr, Bool, true, false, cond, List, [], ◌∷◌, ◌++◌, length, get_or, take, take_all, drop, refl, sym, ap, subst, ◌∙◌, arith, append_assoc, append-nil, length-append}
use Rattle.std.specs.Prelude.{filter}
use Rattle.std.specs.Ordering.{nat_cmp, is_lt}
use Rattle.std.specs.List.{All, Contains, AllByRecursion}
use Rattle.std.specs.List.Sorted.{IsStrictlySortedBy, IsPermutation}
use Rattle.std.specs.declared.cmp.Ordering.{Ordering}
use Rattle.std.specs.declared.cmp.Ordering.TheVariants.{Less, Equal, Greater}
use Rattle.std.proofs.lemmas.Cmp.{tied_itself}
use Rattle.std.proofs.lemmas.List.Elements.{All-more, All-contains, Contains-append_left, Contains-append_right, Contains-append_cases}
use Rattle.std.proofs.lemmas.List.Sorted.{IsPermutation-refl, IsPermutation-cons, IsPermutation-swap, IsPermutation-trans, length_permutation}
use Rattle.tl_beats.specs.Fragments.{Frag}
use Rattle.tl_beats.specs.declared.Placed.{Placed}
use Rattle.tl_definitions.specs.Positions.{Recorded, position_order, lies_before, AreInOrder, insert_in_order, in_order, beats_of_all, placed_beats}
use Rattle.tl_definitions.proofs.Lists.{contains_none, contains_here, contains_there, contains_cases, kept_from, all_of, all_by}
use Rattle.tl_definitions.proofs.PositionLaws.{position_total}
use Rattle.tl_capture.specs.Parts.{spanned, AreAmong}
use Rattle.tl_capture.specs.Present.{recorded}
use Rattle.tl_capture.specs.Ranges.{AreRanges, span_beats}
use Rattle.tl_capture.specs.Windows.{is_within}
use Rattle.tl_capture.proofs.GatherLemmas.{own, pushed, gathered}
use Rattle.tl_capture.proofs.SomeLemmas.{next_left}
use Rattle.tl_capture.proofs.WalkLemmas.{read_all}

-- ---- a list put in order

insert_moves : (p : Placed) (qs : List Placed) → IsPermutation (p ∷ qs) (insert_in_order p qs)
insert_moves p [] = IsPermutation-refl (p ∷ [])
insert_moves p (q ∷ qs) = elim (lies_before p q) as (λ b. IsPermutation (p ∷ q ∷ qs) (cond b (p ∷ q ∷ qs) (q ∷ insert_in_order p qs))) [
  | true ↦ IsPermutation-refl (p ∷ q ∷ qs)
  | false ↦ IsPermutation-trans (p ∷ q ∷ qs) (q ∷ p ∷ qs) (q ∷ insert_in_order p qs)
      (IsPermutation-swap (p ∷ q ∷ qs) (q ∷ p ∷ qs) 0 1 (omega arith) (omega arith) refl)
      (IsPermutation-cons q (p ∷ qs) (insert_in_order p qs) (insert_moves p qs))
]

-- The same beats, in another order.
pub order_moves : (ps : List Placed) → IsPermutation ps (in_order ps)
order_moves [] = IsPermutation-refl []
order_moves (p ∷ ps) = IsPermutation-trans (p ∷ ps) (p ∷ in_order ps) (in_order (p ∷ ps)) (IsPermutation-cons p ps (in_order ps) (order_moves ps)) (insert_moves p (in_order ps))

less_from : (o : Ordering) → is_lt o ≡ true → o ≡ Less
less_from Less h = refl
less_from Equal h = cc
less_from Greater h = cc

not_after : (p q r : Placed) → lies_before p q ≡ true → lies_before r q ≡ false → lies_before r p ≡ false
not_after p q r h g = elim (lies_before r p) as (λ t. lies_before r p ≡ t → t ≡ false) [
  | true ↦ λ e. let less = position_total.trans r p q (less_from (position_order r p) e) (less_from (position_order p q) h) in
      let wrong : true ≡ false = sym (ap is_lt less) ∙ g in cc
  | false ↦ λ e. refl
] refl

all_inserted : (P : Placed → Type 0) (p : Placed) (qs : List Placed) → P p → AllByRecursion P qs → AllByRecursion P (insert_in_order p qs)
all_inserted P p [] h all = (h, tt)
all_inserted P p (q ∷ qs) h all = elim (lies_before p q) as (λ b. AllByRecursion P (cond b (p ∷ q ∷ qs) (q ∷ insert_in_order p qs))) [
  | true ↦ (h, all)
  | false ↦ (all.0, all_inserted P p qs h all.1)
]

insert_rises : (p : Placed) (qs : List Placed) → AreInOrder qs → AreInOrder (insert_in_order p qs)
insert_rises p [] s = (tt, tt)
insert_rises p (q ∷ qs) s = elim (lies_before p q) as (λ b. lies_before p q ≡ b → AreInOrder (cond b (p ∷ q ∷ qs) (q ∷ insert_in_order p qs))) [
  | true ↦ λ e. let itself : lies_before q q ≡ false = ap is_lt (tied_itself position_total q) in
      ((not_after p q q e itself, all_by (λ r. lies_before r p ≡ false) qs (λ r h. not_after p q r e (all_of (λ y. lies_before y q ≡ false) qs s.0 r h))), s)
  | false ↦ λ e. (all_inserted (λ r. lies_before r q ≡ false) p qs e s.0, insert_rises p qs s.1)
] refl

-- They lie in order.
pub order_holds : (ps : List Placed) → AreInOrder (in_order ps)
order_holds [] = tt
order_holds (p ∷ ps) = insert_rises p (in_order ps) (order_holds ps)

-- They are as many.
pub order_length : (ps : List Placed) → length (in_order ps) ≡ length ps
order_length ps = length_permutation ps (in_order ps) (order_moves ps)

-- What is pushed for links, put in order, is the beats that pass.
pub ordered_pushed : (keep : Placed → Bool) (links : List ℕ) (fs : List Recorded) → AreRanges fs → IsStrictlySortedBy nat_cmp links → in_order (pushed keep links fs) ≡ filter keep (beats_of_all links fs)
ordered_pushed keep links fs is s = gathered keep links fs (pushed keep links fs) (in_order (pushed keep links fs)) is s refl (order_moves (pushed keep links fs)) (order_holds (pushed keep links fs))

-- It is as many.
pub pushed_count : (keep : Placed → Bool) (links : List ℕ) (fs : List Recorded) → AreRanges fs → IsStrictlySortedBy nat_cmp links → length (pushed keep links fs) ≡ length (filter keep (beats_of_all links fs))
pushed_count keep links fs is s = sym (order_length (pushed keep links fs)) ∙ ap length (ordered_pushed keep links fs is s)

-- The beats of one link more.
pub pushed_at : (keep : Placed → Bool) (links : List ℕ) (fs : List Recorded) (i : ℕ) → i < length links
    → pushed keep (drop i links) fs ≡ own keep (get_or links i 0) fs ++ pushed keep (drop (i + 1) links) fs
pushed_at keep links fs i within = ap (λ ls. pushed keep ls fs) (next_left links i 0 within)

-- ---- fragments, one after the other

module _ {V : Type 0} (value : V → Frag) (from to : ℕ) where
  abbrev pub part_beats : ℕ × V → List Placed
  part_beats e = span_beats from to (recorded e.0 (value e.1))

  pub spanned_both : (xs ys : List (ℕ × V)) → spanned value from to (xs ++ ys) ≡ spanned value from to xs ++ spanned value from to ys
  spanned_both [] ys = refl
  spanned_both (x ∷ xs) ys = ap (λ ps. part_beats x ++ ps) (spanned_both xs ys) ∙ sym (append_assoc (part_beats x) (spanned value from to xs) (spanned value from to ys))

  pub spanned_at : (es : List (ℕ × V)) (i : ℕ) (e : ℕ × V) → i < length es → e ≡ get_or es i e → spanned value from to (drop i es) ≡ part_beats e ++ spanned value from to (drop (i + 1) es)
  spanned_at es i e within is = ap (spanned value from to) (next_left es i e within) ∙ ap (λ x. part_beats x ++ spanned value from to (drop (i + 1) es)) (sym is)

  pub spanned_from : (es : List (ℕ × V)) (p : Placed) → Contains (spanned value from to es) p → (e : ℕ × V) × Contains es e × Contains (part_beats e) p
  spanned_from [] p h = absurd (contains_none p h)
  spanned_from (e ∷ es) p h = elim (Contains-append_cases (part_beats e) (spanned value from to es) p h) [
    | inl here ↦ (e, contains_here e es, here)
    | inr there ↦ (let known = spanned_from es p there in (known.0, contains_there e es known.0 known.1, known.2))
  ]

  pub spanned_has : (es : List (ℕ × V)) (e : ℕ × V) (p : Placed) → Contains es e → Contains (part_beats e) p → Contains (spanned value from to es) p
  spanned_has [] e p h g = absurd (contains_none e h)
  spanned_has (x ∷ es) e p h g = elim (contains_cases x es e h) [
    | inl same ↦ Contains-append_left (part_beats x) (spanned value from to es) p (subst (λ y. Contains (part_beats y) p) (sym same) g)
    | inr there ↦ Contains-append_right (part_beats x) (spanned value from to es) p (spanned_has es e p there g)
  ]

  pub spanned_within : (es : List (ℕ × V)) (p : Placed) → Contains (spanned value from to es) p → is_within from to p ≡ true
  spanned_within es p h = let found = spanned_from es p h in (kept_from (is_within from to) (placed_beats (recorded found.0.0 (value found.0.1))) p found.2).1

  -- ---- how many they are

  -- What is counted so far, and the beats of the fragments that are left.
  pub counted_more : (es : List (ℕ × V)) (i n m : ℕ) (e : ℕ × V) → i < length es → e ≡ get_or es i e → length (part_beats e) ≡ m → n + length (spanned value from to (drop i es)) ≡ length (spanned value from to es)
      → (n + m) + length (spanned value from to (drop (i + 1) es)) ≡ length (spanned value from to es)
  counted_more es i n m e within is many known =
      let sizes = ap length (spanned_at es i e within is) ∙ length-append (part_beats e) (spanned value from to (drop (i + 1) es)) in omega arith

  -- ---- whether they are among others

  abbrev pub IsAmong : List Placed → ℕ × V → Type 0
  IsAmong ps e = AreAmong (part_beats e) ps

  pub among_more : (ps : List Placed) (es : List (ℕ × V)) (i : ℕ) (e : ℕ × V) → i < length es → e ≡ get_or es i e → All (IsAmong ps) (take i es) → IsAmong ps e → All (IsAmong ps) (take (i + 1) es)
  among_more ps es i e within is all one = All-more (IsAmong ps) es i e within all (subst (IsAmong ps) is one)

  pub all_among : (ps : List Placed) (es : List (ℕ × V)) (i : ℕ) → length es ≤ i → All (IsAmong ps) (take i es) → AreAmong (spanned value from to es) ps
  all_among ps es i past all p h =
      let found = spanned_from es p h in
      All-contains (IsAmong ps) es found.0 (subst (All (IsAmong ps)) (take_all i es past) all) found.1 p found.2

  pub not_among : (ps : List Placed) (es : List (ℕ × V)) (i : ℕ) (e : ℕ × V) → i < length es → e ≡ get_or es i e → (IsAmong ps e → ⊥) → AreAmong (spanned value from to es) ps → ⊥
  not_among ps es i e within is none all = none (λ p h. all p (spanned_has es e p (i, within, sym is) h))

  -- ---- a walk that keeps them

  -- A fragment is pushed.
  pub part_pushed : (link : ℕ) (v w : V) (fs : List Recorded) (ps qs : List (ℕ × V)) (all : List Placed) → value w ≡ value v → qs ≡ ps ++ (link, w) ∷ []
      → spanned value from to ps ++ read_all (span_beats from to) (recorded link (value v) ∷ fs) ≡ all → spanned value from to qs ++ read_all (span_beats from to) fs ≡ all
  part_pushed link v w fs ps qs all copy put known =
      let left : List Placed = read_all (span_beats from to) fs in
      let own : part_beats (link, w) ≡ part_beats (link, v) = ap (λ g. span_beats from to (recorded link g)) copy in
      ap (λ xs. spanned value from to xs ++ left) put ∙ ap (λ xs. xs ++ left) (spanned_both ps ((link, w) ∷ []))
      ∙ append_assoc (spanned value from to ps) (part_beats (link, w) ++ []) left
      ∙ ap (λ xs. spanned value from to ps ++ (xs ++ left)) (append-nil (part_beats (link, w)) ∙ own) ∙ known
