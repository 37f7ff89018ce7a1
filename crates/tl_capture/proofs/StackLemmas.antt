-- Cursors in a stack, the least on top.
use Rattle.std.proofs.Common.{◌≡◌, ℕ, zero, suc, ◌+◌, ◌-◌, ◌<◌, ◌≤◌, inl, inr, true, false, cond, List, [], ◌∷◌, ◌++◌, Some, length, get_or, take, drop, refl, sym, ap, subst, ◌∙◌, arith, length-take-le, drop_of_length-le}
use Rattle.std.specs.declared.cmp.Ordering.{Ordering}
use Rattle.std.specs.declared.cmp.Ordering.TheVariants.{Less, Equal}
use Rattle.std.specs.Ordering.{ordering_reverse, is_lt, eq_by_cmp}
use Rattle.std.specs.List.{Contains, AllByRecursion, AllWithin}
use Rattle.std.specs.List.Sorted.{IsStrictlySortedBy, IsPermutation, IsPartitionedBy, IsPartitionPoint, IsSortedBy}
use Rattle.std.specs.Prelude.{insert, slice_get, nat_lt}
use Rattle.std.proofs.Math.ListN.{set, length-set}
use Rattle.std.proofs.Math.Seq.{drop-cons}
use Rattle.std.proofs.lemmas.List.{get_or-take, get_or_default, set_split, drop-set, take-append-drop, take-take, take-set-le}
use Rattle.std.proofs.lemmas.Option.{slice_get-get_or}
use Rattle.std.proofs.lemmas.Bool.Decides.{nat_tests}
use Rattle.std.proofs.lemmas.Cmp.{tied_itself}
use Rattle.std.proofs.lemmas.List.Elements.{Contains-append_left, Contains-append_right, Contains-append_cases, Contains-get_or}
use Rattle.std.proofs.lemmas.List.Sorted.{IsPermutation-sym, IsPermutation-to_front, IsPermutation-insert, Contains-permutation, sum_by-IsPermutation, sorted_far, ranks_by, IsStrictWeakOrder-flip}
use Rattle.std.specs.Cmp.{IsStrictWeakOrder}
use Rattle.std.proofs.lemmas.List.Sums.{sum_by-cons, sum_by-append}
use Rattle.tl_beats.specs.declared.Placed.{Placed}
use Rattle.tl_capture.specs.declared.cursor.Cursor.{Cursor}
use Rattle.tl_definitions.specs.Positions.{position_order, lies_before, in_order, IsBefore}
use Rattle.tl_capture.specs.Cursors.{here, after, beats_left, all_left}
use Rattle.tl_capture.specs.Waiting.{under_top, in_turn, stack_order, AreStacked, AreUntied, AreReady}
use Rattle.tl_definitions.proofs.Lists.{contains_here, contains_cases, all_of, all_by}
use Rattle.tl_definitions.proofs.PositionLaws.{position_total}
use Rattle.tl_capture.proofs.MatchLemmas.{apart_by_place}
use Rattle.tl_capture.proofs.OrderLemmas.{AreApart, at_place, one_there}
use Rattle.tl_capture.proofs.PartLemmas.{order_moves}
use Rattle.tl_capture.proofs.TurnLemmas.{order_strict, least_first, is_before, other_less}
use Rattle.tl_capture.proofs.CursorLemmas.{next_first, left_from, left_has, left_apart, left_order}

-- ---- beats at positions of their own

pub apart_of : (ps : List Placed) → IsStrictlySortedBy position_order (in_order ps) → AreApart ps
apart_of ps rise p = let same = sum_by-IsPermutation (at_place p) ps (in_order ps) (order_moves ps) in let most = apart_by_place (in_order ps) rise p in omega arith

pub apart_tail : (p : Placed) (ps : List Placed) → AreApart (p ∷ ps) → AreApart ps
apart_tail p ps apart q = let all = sum_by-cons (at_place q) p ps in let most = apart q in omega arith

-- Then no next beats tie.
pub untied : (c : Cursor) (cs : List Cursor) → AreApart (all_left (c ∷ cs)) → AreUntied c cs
untied c cs apart d has tie =
    let p : Placed = here c in
    let all = sum_by-cons (at_place p) p (after c ++ all_left cs) in
    let both = sum_by-append (at_place p) (after c) (all_left cs) in
    let own : at_place p p ≡ 1 = ap (λ o. cond (eq_by_cmp {K = Ordering} (λ x y. x) o o) 1 0) (tied_itself position_total p) in
    let there = left_has cs d (here d) has (contains_here (here d) (after d)) in
    let other = one_there p (all_left cs) (here d) there tie in
    let most = apart p in absurd (omega arith)

-- ---- stacks

pub stack_front : (cs : List Cursor) (d : Cursor) → AreStacked (cs ++ d ∷ []) → AreStacked cs × AllByRecursion (λ c. IsBefore (here d) (here c)) cs
unfolding IsStrictlySortedBy
stack_front [] d s = (tt, tt)
stack_front (c ∷ cs) d s =
    let rest = stack_front cs d s.1 in
    let above = all_of (λ e. stack_order c e ≡ Less) (cs ++ d ∷ []) s.0 in (
      (all_by (λ e. stack_order c e ≡ Less) cs (λ e h. above e (Contains-append_left cs (d ∷ []) e h)), rest.0),
      (above d (Contains-append_right cs (d ∷ []) d (contains_here d [])), rest.1),
    )

pub stack_far : (cs : List Cursor) → AreStacked cs → (i j : ℕ) (d : Cursor) → i < j → j < length cs → IsBefore (here (get_or cs j d)) (here (get_or cs i d))
unfolding IsStrictlySortedBy
stack_far [] s i j d lt within = absurd (let none : j < 0 = within in omega arith)
stack_far (c ∷ cs) s i zero d lt within = absurd (omega arith)
stack_far (c ∷ cs) s zero (suc j) d lt within =
    let there : j < length cs = (let more : suc j < suc (length cs) = within in omega arith) in
    all_of (λ e. stack_order c e ≡ Less) cs s.0 (get_or cs j d) (Contains-get_or cs j d there)
stack_far (c ∷ cs) s (suc i) (suc j) d lt within = stack_far cs s.1 i j d (omega arith) (let more : suc j < suc (length cs) = within in omega arith)

pub insert_stacked : (m : Cursor) (cs : List Cursor) (i : ℕ) → AreStacked cs → AllWithin (λ c. IsBefore (here m) (here c)) cs 0 i → AllWithin (λ c. IsBefore (here c) (here m)) cs i (length cs) → AreStacked (insert cs i m)
unfolding IsStrictlySortedBy
insert_stacked m [] zero s high low = (tt, tt)
insert_stacked m [] (suc i) s high low = (tt, tt)
insert_stacked m (c ∷ cs) zero s high low = (all_by (λ e. stack_order m e ≡ Less) (c ∷ cs) (λ e h. subst (λ z. IsBefore (here z) (here m)) h.2 (low h.0 e (omega arith) h.1)), s)
insert_stacked m (c ∷ cs) (suc i) s high low = (
  all_by (λ e. stack_order c e ≡ Less) (insert cs i m) (λ e h. elim (contains_cases m cs e (Contains-permutation (insert cs i m) (m ∷ cs) e (IsPermutation-sym (m ∷ cs) (insert cs i m) (IsPermutation-insert cs i m)) h)) [
    | inl is ↦ subst (λ z. stack_order c z ≡ Less) is (high 0 c (omega arith) (omega arith))
    | inr there ↦ all_of (λ z. stack_order c z ≡ Less) cs s.0 e there
  ]),
  insert_stacked m cs i s.1 (λ k d at lt. high (suc k) d (omega arith) (omega arith)) (λ k d at lt. low (suc k) d (omega arith) (let less : k < length cs = lt in omega arith)),
)

turned : (p q : Placed) → position_order p q ≡ Equal → position_order q p ≡ Equal
turned p q e = position_total.antisymm q p ∙ ap ordering_reverse e

-- Of two that don't tie, the other lies before one that doesn't lie before it.
pub before_other : (c d : Cursor) (cs : List Cursor) → AreUntied c cs → Contains cs d → lies_before (here c) (here d) ≡ false → IsBefore (here d) (here c)
before_other c d cs apart has h = other_less (here c) (here d) h (λ e. apart d has (turned (here d) (here c) e))

-- What a search for the place of a cursor asks, and what it finds.
pub stack_is_parted : (m : Cursor) (cs : List Cursor) → AreStacked cs → IsPartitionedBy (λ c. lies_before (here m) (here c)) cs
stack_is_parted m cs s i j d le within h = elim (nat_lt i j) as (λ b. nat_lt i j ≡ b → lies_before (here m) (here (get_or cs i d)) ≡ true) [
  | true ↦ λ e. (let lt : i < j = grind (arith, nat_tests) in
      ap is_lt (position_total.trans (here m) (here (get_or cs j d)) (here (get_or cs i d)) (is_before (here m) (here (get_or cs j d)) h) (stack_far cs s i j d lt within)))
  | false ↦ λ e. (let same : j ≡ i = grind (arith, nat_tests) in subst (λ k. lies_before (here m) (here (get_or cs k d)) ≡ true) same h)
] refl

pub put_stacked : (m : Cursor) (cs : List Cursor) (i : ℕ) → AreStacked cs → AreUntied m cs
    → IsPartitionPoint (λ c. lies_before (here m) (here c) ≡ true) (λ c. lies_before (here m) (here c) ≡ false) cs i → AreStacked (insert cs i m)
put_stacked m cs i s apart point = insert_stacked m cs i s
    (λ k d at lt. is_before (here m) (here (get_or cs k d)) (point.0 k d at lt))
    (λ k d at lt. before_other m (get_or cs k d) cs apart (Contains-get_or cs k d lt) (point.1 k d at lt))

-- Where the place is sought from the top down: it lies below those that lie before the cursor, and above the first that doesn't.
pub low_enough : (m d : Cursor) (cs : List Cursor) (i : ℕ) → AreStacked cs → i < length cs → d ≡ get_or cs i d → IsBefore (here m) (here d) → AllWithin (λ c. IsBefore (here m) (here c)) cs 0 (i + 1)
low_enough m d cs i s within is before k e low high = elim (nat_lt k i) as (λ b. nat_lt k i ≡ b → IsBefore (here m) (here (get_or cs k e))) [
  | true ↦ λ t. (let lt : k < i = grind (arith, nat_tests) in
      let one : get_or cs i e ≡ d = get_or_default cs i e d within ∙ sym is in
      position_total.trans (here m) (here d) (here (get_or cs k e)) before (subst (λ c. IsBefore (here c) (here (get_or cs k e))) one (stack_far cs s k i e lt within)))
  | false ↦ λ t. (let same : i ≡ k = grind (arith, nat_tests) in
      let one : d ≡ get_or cs k e = is ∙ get_or_default cs i d e within ∙ ap (λ n. get_or cs n e) same in subst (λ c. IsBefore (here m) (here c)) one before)
] refl

pub more_passed : (m d : Cursor) (cs : List Cursor) (i : ℕ) → i < length cs → d ≡ get_or cs i d → IsBefore (here d) (here m) → AllWithin (λ c. IsBefore (here c) (here m)) cs (i + 1) (length cs)
    → AllWithin (λ c. IsBefore (here c) (here m)) cs i (length cs)
more_passed m d cs i within is before passed k e low high = elim (nat_lt i k) as (λ b. nat_lt i k ≡ b → IsBefore (here (get_or cs k e)) (here m)) [
  | true ↦ λ t. (let lt : i < k = grind (arith, nat_tests) in passed k e (omega arith) high)
  | false ↦ λ t. (let same : i ≡ k = grind (arith, nat_tests) in
      let one : d ≡ get_or cs k e = is ∙ get_or_default cs i d e within ∙ ap (λ n. get_or cs n e) same in subst (λ c. IsBefore (here c) (here m)) one before)
] refl

-- ---- places that are shifted

module _ {X : Type 0} where
  -- The top and what lies under it.
  pub split_top : (xs : List X) (x : X) → slice_get xs (length xs - 1) ≡ Some x → xs ≡ take (length xs - 1) xs ++ x ∷ []
  split_top [] x h = cc
  split_top (y ∷ xs) x h =
      let all : List X = y ∷ xs in
      let n : ℕ = length all - 1 in
      let within : n < length all = omega arith in
      let known : Some (get_or all n x) ≡ Some x = sym (slice_get-get_or all n x within) ∙ h in
      let one : get_or all n x ≡ x = cc in
      let past : length all ≤ suc n = omega arith in
      let none : drop (suc n) all ≡ [] = drop_of_length-le all past in
      sym (take-append-drop n all) ∙ ap (λ zs. take n all ++ zs) (drop-cons all n x within ∙ ap (λ zs. get_or all n x ∷ zs) none ∙ ap (λ z. z ∷ []) one)

  -- What a loop that shifts from the top down keeps: those below the free place are as they were, those above it have moved up.
  pub record AreShifted (old new : List X) (free : ℕ) : Type 0 where
    pub many : length new ≡ length old
    pub place : free < length old
    pub below : take free new ≡ take free old
    pub above : drop (free + 1) new ≡ drop free (take (length old - 1) old)

  pub shift_begins : (old : List X) → 0 < length old → AreShifted old old (length old - 1)
  shift_begins old some =
      let past : length old ≤ length old - 1 + 1 = omega arith in
      let few = length-take-le (length old - 1) old (omega arith) in
      let also : length (take (length old - 1) old) ≤ length old - 1 = omega arith in
      record { many = refl; place = omega arith; below = refl; above = drop_of_length-le old past ∙ sym (drop_of_length-le (take (length old - 1) old) also) }

  -- An item below the free place is the old one.
  pub below_is : (old new : List X) (place i : ℕ) (x : X) → AreShifted old new place → i < place → get_or (take (length old - 1) old) i x ≡ get_or new i x
  below_is old new place i x are lt =
      let within = are.place in
      get_or-take (length old - 1) old i x (omega arith) ∙ sym (get_or-take place old i x lt) ∙ ap (λ xs. get_or xs i x) (sym are.below) ∙ get_or-take place new i x lt

  pub shift_more : (old new next : List X) (i : ℕ) (x : X) → AreShifted old new (i + 1) → x ≡ get_or new i x → next ≡ set new (i + 1) x → AreShifted old next i
  shift_more old new next i x are is put =
      let within = are.place in
      let many = are.many in
      let few = length-take-le (length old - 1) old (omega arith) in
      let same = ap length put ∙ length-set new (i + 1) x in
      let own : get_or (take (length old - 1) old) i x ≡ x = below_is old new (i + 1) i x are (omega arith) ∙ sym is in
      let next_is : suc i ≡ i + 1 = omega arith in
      record {
        many = same ∙ many;
        place = omega arith;
        below = ap (take i) put ∙ take-set-le i new (i + 1) x (omega arith) ∙ sym (take-take i (i + 1) new (omega arith)) ∙ ap (take i) are.below ∙ take-take i (i + 1) old (omega arith);
        above = ap (drop (i + 1)) put ∙ drop-set new (i + 1) x (omega arith) ∙ ap (λ xs. x ∷ xs) are.above
            ∙ sym (drop-cons (take (length old - 1) old) i x (omega arith) ∙ ap (λ y. y ∷ drop (suc i) (take (length old - 1) old)) own ∙ ap (λ n. x ∷ drop n (take (length old - 1) old)) next_is);
      }

  pub shift_ends : (old new last : List X) (place : ℕ) (x : X) → AreShifted old new place → last ≡ set new place x → last ≡ insert (take (length old - 1) old) place x
  shift_ends old new last place x are put =
      let within = are.place in
      let many = are.many in
      let next_is : suc place ≡ place + 1 = omega arith in
      put ∙ set_split new place x (omega arith) ∙ ap (λ xs. xs ++ x ∷ drop (suc place) new) (are.below ∙ sym (take-take place (length old - 1) old (omega arith)))
      ∙ ap (λ xs. take place (take (length old - 1) old) ++ x ∷ xs) (ap (λ n. drop n new) next_is ∙ are.above)

-- ---- a place that is sought from the top down

module _ (m d : Cursor) (old new last : List Cursor) (place : ℕ) (are : AreShifted old new place) (passed : AllWithin (λ c. IsBefore (here c) (here m)) (under_top old) place (length (under_top old))) where
  few : length (under_top old) ≡ length old - 1
  few = length-take-le (length old - 1) old (omega arith)

  -- The cursor above the free place is an old one.
  above_is : 0 < place → d ≡ get_or new (place - 1) d → d ≡ get_or (under_top old) (place - 1) d
  above_is some is = is ∙ sym (below_is old new place (place - 1) d are (omega arith))

  -- The place is found.
  pub near_placed : AreStacked (under_top old) → 0 < place → d ≡ get_or new (place - 1) d → IsBefore (here m) (here d) → last ≡ set new place m → IsPermutation (m ∷ under_top old) last × AreStacked last
  near_placed stacked some is before put =
      let within = are.place in
      let many = few in
      let one : place - 1 + 1 ≡ place = omega arith in
      let same = shift_ends old new last place m are put in
      let high = subst (λ n. AllWithin (λ c. IsBefore (here m) (here c)) (under_top old) 0 n) one (low_enough m d (under_top old) (place - 1) stacked (omega arith) (above_is some is) before) in (
        subst (IsPermutation (m ∷ under_top old)) (sym same) (IsPermutation-insert (under_top old) place m),
        subst AreStacked (sym same) (insert_stacked m (under_top old) place stacked high passed),
      )

  -- It is the lowest.
  pub lowest_placed : AreStacked (under_top old) → place ≡ 0 → last ≡ set new 0 m → IsPermutation (m ∷ under_top old) last × AreStacked last
  lowest_placed stacked none put =
      let same = shift_ends old new last place m are (put ∙ ap (λ n. set new n m) (sym none)) in (
        subst (IsPermutation (m ∷ under_top old)) (sym same) (IsPermutation-insert (under_top old) place m),
        subst AreStacked (sym same) (insert_stacked m (under_top old) place stacked (λ k e low high. absurd (omega arith)) passed),
      )

  -- One more moves up.
  pub near_shifted : AreUntied m (under_top old) → 0 < place → d ≡ get_or new (place - 1) d → lies_before (here m) (here d) ≡ false → last ≡ set new place d
      → AreShifted old last (place - 1) × AllWithin (λ c. IsBefore (here c) (here m)) (under_top old) (place - 1) (length (under_top old))
  near_shifted apart some is test put =
      let within = are.place in
      let many = few in
      let own = above_is some is in
      let one : place ≡ place - 1 + 1 = omega arith in
      let below : place - 1 < length (under_top old) = omega arith in (
        shift_more old new last (place - 1) d (subst (AreShifted old new) one are) is (put ∙ ap (λ n. set new n d) one),
        more_passed m d (under_top old) (place - 1) below own (before_other m d (under_top old) apart (place - 1, below, sym own) test)
            (subst (λ n. AllWithin (λ c. IsBefore (here c) (here m)) (under_top old) n (length (under_top old))) one passed),
      )

-- ---- a walk

-- The next beat, and what is left after it.
taken : (c : Cursor) (cs : List Cursor) → AllByRecursion (λ d. IsBefore (here c) (here d)) cs → in_turn (c ∷ cs) ≡ here c ∷ in_order (after c ++ all_left cs)
taken c cs least = least_first (here c) (after c ++ all_left cs) (λ q h. elim (Contains-append_cases (after c) (all_left cs) q h) [
  | inl own ↦ next_first c q own
  | inr other ↦ (let found = left_from cs q other in
      let lower = all_of (λ d. IsBefore (here c) (here d)) cs least found.0 found.1 in
      elim (contains_cases (here found.0) (after found.0) q found.2) [
        | inl is ↦ subst (λ z. IsBefore (here c) z) is lower
        | inr behind ↦ position_total.trans (here c) (here found.0) q lower (next_first found.0 q behind)
      ])
])

-- The top is the next cursor.
pub top_first : (cs under : List Cursor) (top : Cursor) → AreReady cs → cs ≡ under ++ top ∷ [] → in_turn cs ≡ here top ∷ in_order (after top ++ all_left under)
top_first cs under top ready is =
    let moved : IsPermutation cs (top ∷ under) = subst (λ xs. IsPermutation xs (top ∷ under)) (sym is) (IsPermutation-to_front under top) in
    left_order cs (top ∷ under) moved (apart_of (all_left cs) ready.apart) ∙ taken top under (stack_front under top (subst AreStacked is ready.stacked)).1

pub under_stacked : (cs under : List Cursor) (top : Cursor) → AreReady cs → cs ≡ under ++ top ∷ [] → AreStacked under
under_stacked cs under top ready is = (stack_front under top (subst AreStacked is ready.stacked)).0

rest_apart : (cs under : List Cursor) (top : Cursor) → AreReady cs → cs ≡ under ++ top ∷ [] → AreApart (after top ++ all_left under)
rest_apart cs under top ready is =
    apart_tail (here top) (after top ++ all_left under) (left_apart cs (top ∷ under) (subst (λ xs. IsPermutation xs (top ∷ under)) (sym is) (IsPermutation-to_front under top)) (apart_of (all_left cs) ready.apart))

apart_drop : (n : ℕ) (ps qs : List Placed) → AreApart (ps ++ qs) → AreApart (drop n ps ++ qs)
apart_drop zero ps qs apart = apart
apart_drop (suc n) [] qs apart = apart
apart_drop (suc n) (p ∷ ps) qs apart = apart_drop n ps qs (apart_tail p (ps ++ qs) apart)

-- Behind its last beat the others are left.
pub top_ends : (cs under ds : List Cursor) (top : Cursor) (n : ℕ) → AreReady cs → cs ≡ under ++ top ∷ [] → drop n (after top) ≡ [] → ds ≡ under
    → AreReady ds × (in_turn ds ≡ in_order (drop n (after top) ++ all_left under))
top_ends cs under ds top n ready is end same =
    let own : AreApart (all_left under) = subst (λ ps. AreApart (ps ++ all_left under)) end (apart_drop n (after top) (all_left under) (rest_apart cs under top ready is)) in (
      subst AreReady (sym same) (record { stacked = under_stacked cs under top ready is; apart = order_strict (all_left under) own }),
      ap in_turn same ∙ ap (λ ps. in_order (ps ++ all_left under)) (sym end),
    )

-- Otherwise it is put among them again.
pub top_moves : (cs under ds : List Cursor) (top m : Cursor) (n : ℕ) → AreReady cs → cs ≡ under ++ top ∷ [] → beats_left m ≡ drop n (after top) → IsPermutation (m ∷ under) ds → AreStacked ds
    → AreReady ds × (in_turn ds ≡ in_order (drop n (after top) ++ all_left under))
top_moves cs under ds top m n ready is rest moved stacked =
    let own : AreApart (all_left (m ∷ under)) = subst (λ ps. AreApart (ps ++ all_left under)) (sym rest) (apart_drop n (after top) (all_left under) (rest_apart cs under top ready is)) in (
      record { stacked = stacked; apart = order_strict (all_left ds) (left_apart (m ∷ under) ds moved own) },
      sym (left_order (m ∷ under) ds moved own) ∙ ap (λ ps. in_order (ps ++ all_left under)) rest,
    )

pub moved_untied : (cs under : List Cursor) (top m : Cursor) (n : ℕ) → AreReady cs → cs ≡ under ++ top ∷ [] → beats_left m ≡ drop n (after top) → AreUntied m under
moved_untied cs under top m n ready is rest = untied m under (subst (λ ps. AreApart (ps ++ all_left under)) (sym rest) (apart_drop n (after top) (all_left under) (rest_apart cs under top ready is)))

-- ---- the start of a walk

sorted_tail : (x : Cursor) (xs : List Cursor) → IsSortedBy (λ c d. is_lt (stack_order c d)) (x ∷ xs) → IsSortedBy (λ c d. is_lt (stack_order c d)) xs
sorted_tail x xs s k d low high =
    let next : suc k + 1 ≡ suc (k + 1) = omega arith in
    subst (λ n. is_lt (stack_order (get_or (x ∷ xs) n d) (get_or (x ∷ xs) (suc k) d)) ≡ false) next (s (suc k) d (omega arith) (omega arith))

pub stack_weak : IsStrictWeakOrder (λ c d. is_lt (stack_order c d))
stack_weak = IsStrictWeakOrder-flip (λ (c : Cursor) (d : Cursor). is_lt (position_order (here c) (here d))) (ranks_by position_total here)

left_tail : (c : Cursor) (cs : List Cursor) → AreApart (all_left (c ∷ cs)) → AreApart (all_left cs)
left_tail c cs apart p = let both = sum_by-append (at_place p) (beats_left c) (all_left cs) in let most = apart p in omega arith

pub stacked_from : (cs : List Cursor) → IsSortedBy (λ c d. is_lt (stack_order c d)) cs → AreApart (all_left cs) → AreStacked cs
unfolding IsStrictlySortedBy
stacked_from [] s apart = tt
stacked_from (c ∷ cs) s apart = (
  all_by (λ d. stack_order c d ≡ Less) cs (λ d h.
      let far = sorted_far (λ x y. is_lt (stack_order x y)) stack_weak (c ∷ cs) s 0 (suc h.0) d (omega arith) (let lt : h.0 < length cs = h.1 in omega arith) in
      before_other c d cs (untied c cs apart) h (subst (λ z. is_lt (stack_order z c) ≡ false) h.2 far)),
  stacked_from cs (sorted_tail c cs s) (left_tail c cs apart),
)

-- Cursors that have these beats, and are put in order.
pub asked_for : (cs ds : List Cursor) (ps : List Placed) → all_left cs ≡ ps → IsStrictlySortedBy position_order (in_order ps) → IsPermutation cs ds → in_turn ds ≡ in_order ps
asked_for cs ds ps has rise moved = sym (left_order cs ds moved (apart_of (all_left cs) (subst (λ qs. IsStrictlySortedBy position_order (in_order qs)) (sym has) rise))) ∙ ap in_order has
