-- Beats that stand where they say, and lists with the same members.
use Rattle.std.proofs.Common.{◌≡◌, ℕ, zero, suc, ◌+◌, ◌-◌, ◌<◌, ◌≤◌, inl, inr, Bool, true, false, cond, List, [], ◌∷◌, length, get_or, take, Some, None, refl, sym, ap, subst, ◌∙◌, arith, length-append, true≢false, eqb-true}
use Rattle.std.specs.Prelude.{filter, not, ◌==◌, ◌&&◌, nat_le, nat_lt}
use Rattle.std.specs.Bool.{Decides}
use Rattle.std.specs.Cmp.{IsTotalOrder}
use Rattle.std.specs.Ordering.{eq_by_cmp}
use Rattle.std.specs.List.{Contains, AllByRecursion, AllWithin, list_any, sum_by}
use Rattle.std.specs.List.Sorted.{IsStrictlySortedBy, IsPermutation}
use Rattle.std.specs.declared.cmp.Ordering.{Ordering}
use Rattle.std.specs.declared.cmp.Ordering.TheVariants.{Less, Equal}
use Rattle.std.proofs.lemmas.Bool.Decides.{nat_tests}
use Rattle.std.proofs.lemmas.Cmp.{tied_itself}
use Rattle.std.proofs.lemmas.List.Kept.{IsStrictlySortedBy-filter}
use Rattle.std.proofs.lemmas.List.Sorted.{Contains-permutation, IsPermutation-sym, IsPermutation-trans}
use Rattle.std.proofs.lemmas.List.Sums.{sum_by-cons}
use Rattle.tl_tables.specs.declared.Chan.TheVariants as chan
use Rattle.tl_beats.specs.Fragments.{Frag}
use Rattle.tl_beats.specs.declared.Beat.{Beat}
use Rattle.tl_beats.specs.declared.Placed.{Placed}
use Rattle.tl_definitions.specs.Positions.{Recorded, position_order, AreInOrder, placed_beats, in_order, beats_of_all}
use Rattle.tl_definitions.proofs.Lists.{contains_none, contains_here, contains_there, contains_cases, contains_kept, kept_from, none_kept, all_of}
use Rattle.tl_definitions.proofs.PositionLaws.{position_total}
use Rattle.tl_definitions.proofs.ReportLaws.{strict_one}
use Rattle.tl_capture.specs.Parts.{spanned, AreOfWindow, AreAmong, AreAlike}
use Rattle.tl_capture.specs.Present.{IsPresent, is_of, numbered}
use Rattle.tl_capture.specs.Ranges.{span_beats}
use Rattle.tl_capture.specs.Spans.{IsSpan, holds}
use Rattle.tl_capture.specs.Windows.{window_of, lies_in, is_within, beats_in, beats_within, HasBeat}
use Rattle.tl_capture.proofs.CutLemmas.{AreBounds, none_in_front, one_more, placed_get, placed_length, placed_within, all_of_fragment}
use Rattle.tl_capture.proofs.GatherLemmas.{gathered_from, gathered_has, link_of_any, or_left, or_right}
use Rattle.tl_capture.proofs.NumberLemmas.{found_from, absent_all}
use Rattle.tl_capture.proofs.LawLemmas.{of_span}
use Rattle.tl_capture.proofs.OrderLemmas.{AreApart, at_place, equal_from, none_there, strict_from, moved_apart}
use Rattle.tl_capture.proofs.PartLemmas.{order_moves, order_length, spanned_within}
use Rattle.tl_capture.proofs.PresentLemmas.{placed_at, placed_is_of, ranges_of, beats_rise}
use Rattle.tl_capture.proofs.TouchLemmas.{some_of}

pub no_decides : {P : Type 0} → (P → ⊥) → Decides false P
no_decides f = ((λ h. cc), (λ h. absurd (f h)))

-- An item that is there is found with any default.
pub get_or_any : {X : Type 0} (xs : List X) (k : ℕ) (d e : X) → k < length xs → get_or xs k d ≡ get_or xs k e
get_or_any [] k d e within = absurd (let none : k < 0 = within in omega arith)
get_or_any (x ∷ xs) zero d e within = refl
get_or_any (x ∷ xs) (suc k) d e within = get_or_any xs k d e (let lt : suc k < suc (length xs) = within in omega arith)

item_of : {X : Type 0} (xs : List X) → 0 < length xs → (x : X) × Contains xs x
item_of [] h = absurd (let none : 0 < 0 = h in omega arith)
item_of (x ∷ xs) h = (x, contains_here x xs)

-- What an index past the last beat leads to.
abbrev no_beat : Beat
no_beat = record { cycle = 0; chan = chan.A; opcode = 0; param = 0; size = 0; source = 0; sink = 0; address = 0; mask = 0; denied = false; corrupt = false }

-- ---- one fragment

-- Where a beat of a fragment stands.
pub record StandsIn (f : Recorded) (p : Placed) : Type 0 where
  pub link : p.link ≡ f.link
  pub number : f.number ≡ p.fragment
  pub line : 2 ≤ p.line
  pub within : p.line - 2 < length f.beats
  pub beat : (d : Beat) → get_or f.beats (p.line - 2) d ≡ p.beat

pub stands_where : (f : Recorded) (p : Placed) → Contains (placed_beats f) p → StandsIn f p
stands_where f p h =
    let many = placed_length f.link f.number 2 f.beats in
    let high : h.0 < length (placed_beats f) = h.1 in
    let within : h.0 < length f.beats = omega arith in
    let at : (d : Beat) → placed_at f.link f.number (2 + h.0) (get_or f.beats h.0 d) ≡ p = λ d. sym (placed_get f.link f.number 2 f.beats h.0 p d within) ∙ h.2 in
    let line : 2 + h.0 ≡ p.line = ap (λ (q : Placed). q.line) (at p.beat) in
    let index : h.0 ≡ p.line - 2 = omega arith in
    record {
      link = sym (ap (λ (q : Placed). q.link) (at p.beat));
      number = ap (λ (q : Placed). q.fragment) (at p.beat);
      line = omega arith;
      within = omega arith;
      beat = λ d. ap (λ k. get_or f.beats k d) (sym index) ∙ ap (λ (q : Placed). q.beat) (at d);
    }

pub stands_there : (f : Recorded) (p : Placed) → StandsIn f p → Contains (placed_beats f) p
stands_there f p is =
    let many = placed_length f.link f.number 2 f.beats in
    let k : ℕ = p.line - 2 in
    let low = is.line in
    let line : 2 + k ≡ p.line = omega arith in
    let within : k < length f.beats = is.within in
    let there : k < length (placed_beats f) = omega arith in
    let at : get_or (placed_beats f) k p ≡ p =
    placed_get f.link f.number 2 f.beats k p p.beat within ∙ ap (λ b. placed_at f.link f.number (2 + k) b) (is.beat p.beat) ∙ ap (λ n. placed_at f.link f.number n p.beat) line
    ∙ ap (λ n. placed_at f.link n p.line p.beat) is.number ∙ ap (λ n. placed_at n p.fragment p.line p.beat) (sym is.link) in
    (k, there, at)

-- Of beats that stand in a row.
count_row : {X : Type 0} (p : X → Bool) (xs : List X) (start n : ℕ) → start + n ≤ length xs → AllWithin (λ x. p x ≡ false) xs 0 start → AllWithin (λ x. p x ≡ true) xs start (start + n)
    → length (filter p (take (start + n) xs)) ≡ n
count_row p xs start zero high front row =
    let same : start + 0 ≡ start = omega arith in
    ap (λ k. length (filter p (take k xs))) same ∙ ap length (none_in_front p xs start front)
count_row p [] start (suc n) high front row = absurd (let none : start + suc n ≤ 0 = high in omega arith)
count_row p (x ∷ xs) start (suc n) high front row =
    let all = x ∷ xs in
    let next : start + suc n ≡ (start + n) + 1 = omega arith in
    let within : start + n < length (x ∷ xs) = omega arith in
    let y = get_or (x ∷ xs) (start + n) x in
    let known = count_row p (x ∷ xs) start n (omega arith) front (λ k d low lt. row k d low (omega arith)) in
    let grown = one_more p (x ∷ xs) (start + n) y within (get_or_any (x ∷ xs) (start + n) y x within) (row (start + n) x (omega arith) (omega arith)) in
    let both = length-append (filter p (take (start + n) (x ∷ xs))) (y ∷ []) in
    ap (λ k. length (filter p (take k (x ∷ xs)))) next ∙ ap length grown ∙ both ∙ (let e : length (filter p (take (start + n) (x ∷ xs))) + 1 ≡ suc n = omega arith in e)

fragment_count : (f : Recorded) (from to start end : ℕ) → AreBounds f.beats from to start end → length (span_beats from to f) ≡ end - start
fragment_count f from to start end are =
    let order = are.order in let within = are.within in
    let n : ℕ = end - start in
    let sum : start + n ≡ end = omega arith in
    let many = placed_length f.link f.number 2 f.beats in
    let all = all_of_fragment f from to end are.behind in
    sym (ap length all) ∙ ap (λ k. length (beats_within from to (take k (placed_beats f)))) (sym sum)
    ∙ count_row (is_within from to) (placed_beats f) start n (omega arith) (placed_within f from to 0 start false (omega arith) are.before)
    (subst (λ k. AllWithin (λ p. is_within from to p ≡ true) (placed_beats f) start k) (sym sum) (placed_within f from to start end true within are.between))

-- The same, of beats that are those of the fragment.
pub span_count : (f : Recorded) (beats : List Beat) (from to start end : ℕ) → beats ≡ f.beats → AreBounds beats from to start end → length (span_beats from to f) ≡ end - start
span_count f beats from to start end same are = fragment_count f from to start end (subst (λ bs. AreBounds bs from to start end) same are)

-- ---- among the beats of links

any_link : (links : List ℕ) (n : ℕ) → Contains links n → list_any (λ link. n == link) links ≡ true
any_link [] n h = absurd (contains_none n h)
any_link (link ∷ links) n h = elim (contains_cases link links n h) [
  | inl is ↦ (let same : (n == link) ≡ true = grind (arith, nat_tests) in or_left (n == link) (list_any (λ link. n == link) links) same)
  | inr there ↦ or_right (n == link) (list_any (λ link. n == link) links) (any_link links n there)
]

module _ (links : List ℕ) (fs : List Recorded) (from to : ℕ) where
  abbrev there : List Placed
  there = beats_within from to (beats_of_all links fs)

  -- A beat of the links is one of a fragment of its link and number.
  pub record IsBeatOf (p : Placed) : Type 0 where
    pub fragment : Recorded
    pub present : Contains fs fragment
    pub link : fragment.link ≡ p.link
    pub number : fragment.number ≡ p.fragment
    pub linked : Contains links p.link
    pub beat : Contains (placed_beats fragment) p

  pub beat_from : (p : Placed) → Contains there p → IsBeatOf p
  beat_from p h =
      let one = gathered_from (is_within from to) links fs p h in
      let f : Recorded = one.1.0 in
      let of = placed_is_of f.link f.number 2 f.beats p one.1.3 in
      record {
        fragment = f;
        present = one.1.1;
        link = sym of.0;
        number = sym of.1;
        linked = subst (Contains links) (sym of.0) (link_of_any links f.link one.1.2);
        beat = one.1.3;
      }

  beat_has : (p : Placed) (f : Recorded) → is_within from to p ≡ true → Contains fs f → Contains links f.link → Contains (placed_beats f) p → Contains there p
  beat_has p f lies has of at = gathered_has (is_within from to) links fs p (lies, (f, has, any_link links f.link of, at))

  module _ (f : Recorded) (start end : ℕ) (are : AreBounds f.beats from to start end) where
    pub none_among : start ≡ end → Decides true (AreAmong (span_beats from to f) there)
    none_among same = (
      (λ h p at. let many = fragment_count f from to start end are in let within : at.0 < length (span_beats from to f) = at.1 in absurd (omega arith)),
      (λ h. refl),
    )

    some_beat : start < end → (p : Placed) × Contains (span_beats from to f) p
    some_beat lt = let many = fragment_count f from to start end are in item_of (span_beats from to f) (omega arith)

    pub other_link : (start ≡ end → ⊥) → (Contains links f.link → ⊥) → Decides false (AreAmong (span_beats from to f) there)
    other_link differ none = no_decides (λ all.
        let order = are.order in
        let one = some_beat (omega (arith, differ)) in
        let kept = kept_from (is_within from to) (placed_beats f) one.0 one.1 in
        let of = placed_is_of f.link f.number 2 f.beats one.0 kept.0 in
        none (subst (Contains links) of.0 (beat_from one.0 (all one.0 one.1)).linked))

    pub absent : (start ≡ end → ⊥) → numbered f.link f.number fs ≡ None → Decides false (AreAmong (span_beats from to f) there)
    absent differ none = no_decides (λ all.
        let order = are.order in
        let one = some_beat (omega (arith, differ)) in
        let kept = kept_from (is_within from to) (placed_beats f) one.0 one.1 in
        let of = placed_is_of f.link f.number 2 f.beats one.0 kept.0 in
        let is = beat_from one.0 (all one.0 one.1) in
        let g : Recorded = is.fragment in
        let link : g.link ≡ f.link = is.link ∙ of.0 in
        let number : g.number ≡ f.number = is.number ∙ of.1 in
        let yes : is_of f.link f.number g ≡ true = grind (arith, nat_tests) in
        let no : is_of f.link f.number g ≡ false = all_of (λ h. is_of f.link f.number h ≡ false) fs (absent_all f.link f.number fs none) g is.present in
        absurd (true≢false (sym yes ∙ no)))

    -- A beat of the span stands between the bounds.
    between : (k : ℕ) → k < length f.beats → holds from to (get_or f.beats k no_beat) ≡ true → (start ≤ k) × (k < end)
    between k within lies = (
      (elim (nat_lt k start) as (λ t. nat_lt k start ≡ t → start ≤ k) [
        | true ↦ λ e. (let no = are.before k no_beat (omega arith) (grind (arith, nat_tests)) in absurd (true≢false (sym lies ∙ no)))
        | false ↦ λ e. grind (arith, nat_tests)
      ] refl),
      (elim (nat_lt k end) as (λ t. nat_lt k end ≡ t → k < end) [
        | true ↦ λ e. grind (arith, nat_tests)
        | false ↦ λ e. (let no = are.behind k no_beat (grind (arith, nat_tests)) within in absurd (true≢false (sym lies ∙ no)))
      ] refl),
    )

    module _ (is : IsPresent fs) (g : Recorded) (found : numbered f.link f.number fs ≡ Some g) where
      alike_among : Contains links f.link → end ≤ length g.beats → AreAlike start end f.beats g.beats → AreAmong (span_beats from to f) there
      alike_among of high alike p h =
          let known = found_from (is_of f.link f.number) fs g found in
          let test : is_of f.link f.number g ≡ true = known.1 in
          let link : g.link ≡ f.link = grind (arith, nat_tests) in
          let number : g.number ≡ f.number = grind (arith, nat_tests) in
          let kept = kept_from (is_within from to) (placed_beats f) p h in
          let at = stands_where f p kept.0 in
          let k : ℕ = p.line - 2 in
          let lies : holds from to (get_or f.beats k no_beat) ≡ true = ap (λ b. holds from to b) (at.beat no_beat) ∙ kept.1 in
          let bounds = between k at.within lies in
          let low : start ≤ k = bounds.0 in let lt : k < end = bounds.1 in
          beat_has p g kept.1 known.0 (subst (Contains links) (sym link) of) (stands_there g p (record {
            link = at.link ∙ sym link;
            number = number ∙ at.number;
            line = at.line;
            within = omega arith;
            beat = λ d. sym (alike k d low lt) ∙ at.beat d;
          }))

      -- A beat between the bounds stands there too.
      alike_at : AreAmong (span_beats from to f) there → (k : ℕ) → start ≤ k → k < end → (k < length g.beats) × ((d : Beat) → get_or f.beats k d ≡ get_or g.beats k d)
      alike_at all k low lt =
          let most = are.within in
          let inside : k < length f.beats = omega arith in
          let b : Beat = get_or f.beats k no_beat in
          let p : Placed = placed_at f.link f.number (2 + k) b in
          let line : k ≡ (2 + k) - 2 = omega arith in
          let own : Contains (placed_beats f) p = stands_there f p (record {
            link = refl;
            number = refl;
            line = omega arith;
            within = subst (λ n. n < length f.beats) line inside;
            beat = λ d. ap (λ n. get_or f.beats n d) (sym line) ∙ get_or_any f.beats k d no_beat inside;
          }) in
          let one = beat_from p (all p (contains_kept (is_within from to) (placed_beats f) p own (are.between k no_beat low lt))) in
          let h : Recorded = one.fragment in
          let link : h.link ≡ f.link = one.link in
          let number : h.number ≡ f.number = one.number in
          let test : is_of f.link f.number h ≡ true = grind (arith, nat_tests) in
          let also : Some h ≡ Some g = sym (some_of f.link f.number fs h is one.present test) ∙ found in
          let same : h ≡ g = cc in
          let at = stands_where g p (subst (λ r. Contains (placed_beats r) p) same one.beat) in
          (subst (λ n. n < length g.beats) (sym line) at.within, λ d. get_or_any f.beats k d no_beat inside ∙ sym (ap (λ n. get_or g.beats n d) line ∙ at.beat d))

      pub alike_decides : (r : Bool) → Contains links f.link → (start ≡ end → ⊥) → Decides r ((end ≤ length g.beats) × AreAlike start end f.beats g.beats) → Decides r (AreAmong (span_beats from to f) there)
      alike_decides r of differ decides = (
        (λ yes. let both = decides.0 yes in alike_among of both.0 both.1),
        (λ all. decides.1 (
          (let order = are.order in let last = (alike_at all (end - 1) (omega (arith, differ)) (omega (arith, differ))).0 in omega (arith, differ)),
          (λ k d low lt. (alike_at all k low lt).1 d),
        )),
      )

-- ---- lists in strict order

module _ {X : Type 0} (R : X → X → Ordering) (total : IsTotalOrder R) where
  below_not_itself : (x : X) → R x x ≡ Less → ⊥
  below_not_itself x h = let tie : R x x ≡ Equal = tied_itself total x in let wrong : Less ≡ Equal = sym h ∙ tie in cc

  tail_there : (x y : X) (xs ys : List X) → AllByRecursion (λ z. R x z ≡ Less) xs → AllByRecursion (λ z. R y z ≡ Less) ys → ((z : X) → Contains (x ∷ xs) z → Contains (y ∷ ys) z) → (z : X) → Contains xs z → Contains ys z
  tail_there x y xs ys up down all z h = elim (contains_cases y ys z (all z (contains_there x xs z h))) [
    | inl is ↦ (let less : R x y ≡ Less = subst (λ w. R x w ≡ Less) (sym is) (all_of (λ w. R x w ≡ Less) xs up z h) in
        elim (contains_cases y ys x (all x (contains_here x xs))) [
          | inl same ↦ absurd (below_not_itself x (subst (λ w. R x w ≡ Less) same less))
          | inr there ↦ absurd (below_not_itself x (total.trans x y x less (all_of (λ w. R y w ≡ Less) ys down x there)))
        ])
    | inr there ↦ there
  ]

  -- As many, and all of them there: they are the same.
  pub as_many : (xs ys : List X) → IsStrictlySortedBy R xs → IsStrictlySortedBy R ys → ((x : X) → Contains xs x → Contains ys x) → length xs ≡ length ys → xs ≡ ys
  unfolding IsStrictlySortedBy
  as_many [] [] s t all many = refl
  as_many [] (y ∷ ys) s t all many = absurd (let wrong : 0 ≡ suc (length ys) = many in omega arith)
  as_many (x ∷ xs) [] s t all many = absurd (contains_none x (all x (contains_here x xs)))
  as_many (x ∷ xs) (y ∷ ys) s t all many =
      let rest : xs ≡ ys = as_many xs ys s.1 t.1 (tail_there x y xs ys s.0 t.0 all) (let e : suc (length xs) ≡ suc (length ys) = many in omega arith) in
      elim (contains_cases y ys x (all x (contains_here x xs))) [
        | inl same ↦ (let e : x ≡ y = sym same in cc)
        | inr there ↦ absurd (below_not_itself x (all_of (λ w. R x w ≡ Less) xs s.0 x (subst (λ zs. Contains zs x) (sym rest) there)))
      ]

-- ---- one order

-- Beats in strict order have places of their own.
pub apart_by_place : (xs : List Placed) → IsStrictlySortedBy position_order xs → AreApart xs
unfolding IsStrictlySortedBy
apart_by_place [] s p = omega arith
apart_by_place (x ∷ xs) s p =
    let all = sum_by-cons (at_place p) x xs in
    elim (eq_by_cmp position_order p x) as (λ b. eq_by_cmp position_order p x ≡ b → sum_by (at_place p) (x ∷ xs) ≤ 1) [
      | true ↦ λ e. (let same = equal_from (position_order p x) e in
          let rest = none_there p xs (λ y h tie. let less : position_order x y ≡ Less = all_of (λ z. position_order x z ≡ Less) xs s.0 y h in
          let wrong : Less ≡ Equal = sym less ∙ sym (position_total.congr p x y same) ∙ tie in cc) in
          let one : at_place p x ≡ 1 = ap (λ b. cond b 1 0) e in omega arith)
      | false ↦ λ e. (let rest = apart_by_place xs s.1 p in let none : at_place p x ≡ 0 = ap (λ b. cond b 1 0) e in omega arith)
    ] refl

-- Put in order in place or by the definition, beats with places of their own are one list.
pub one_order : (ps qs : List Placed) → IsStrictlySortedBy position_order (in_order ps) → IsPermutation ps qs → AreInOrder qs → qs ≡ in_order ps
one_order ps qs rise moved order =
    let back : IsPermutation (in_order ps) ps = IsPermutation-sym ps (in_order ps) (order_moves ps) in
    let all : IsPermutation (in_order ps) qs = IsPermutation-trans (in_order ps) ps qs back moved in
    strict_one position_order position_total qs (in_order ps) (strict_from qs order (moved_apart (in_order ps) qs all (apart_by_place (in_order ps) rise))) rise
    (λ p. (Contains-permutation qs (in_order ps) p (IsPermutation-sym (in_order ps) qs all), Contains-permutation (in_order ps) qs p all))

-- ---- windows

at_itself : (from to : ℕ) → from ≤ to → (nat_le from from && nat_le from to) ≡ true
at_itself from to order = grind (arith, nat_tests)

-- A span is that of the window of its first cycle.
begins_in : (window from to : ℕ) → IsSpan window from to → window_of from ≡ window
begins_in window from to is = let test : (window_of from == window) ≡ true = is.exact from ∙ at_itself from to is.order in grind (arith, nat_tests)

pub own_span : (window from to : ℕ) → IsSpan window from to → IsSpan (window_of from) from to
own_span window from to is = subst (λ w. IsSpan w from to) (sym (begins_in window from to is)) is

at_end : (from to : ℕ) → from ≤ to → (nat_le from to && nat_le to to) ≡ true
at_end from to order = grind (arith, nat_tests)

low_of : (low cycle high : ℕ) → (nat_le low cycle && nat_le cycle high) ≡ true → low ≤ cycle
low_of low cycle high h = grind (arith, nat_tests)

high_of : (low cycle high : ℕ) → (nat_le low cycle && nat_le cycle high) ≡ true → cycle ≤ high
high_of low cycle high h = grind (arith, nat_tests)

-- The first window, without beats.
first_window : (cycle : ℕ) → (window_of cycle == 0) ≡ (nat_le 0 cycle && nat_le cycle 4095)
first_window cycle = grind (arith, nat_tests)

pub no_beats : AreOfWindow 0 4095 []
unfolding IsStrictlySortedBy
no_beats = record { span = record { order = omega arith; exact = first_window }; rise = tt }

-- One window has one span.
pub one_span : (window from to low high : ℕ) → IsSpan window from to → IsSpan window low high → (from ≡ low) × (to ≡ high)
one_span window from to low high is also =
    let a = low_of low from high (sym (also.exact from) ∙ is.exact from ∙ at_itself from to is.order) in
    let b = low_of from low to (sym (is.exact low) ∙ also.exact low ∙ at_itself low high also.order) in
    let c = high_of low to high (sym (also.exact to) ∙ is.exact to ∙ at_end from to is.order) in
    let d = high_of from high to (sym (is.exact high) ∙ also.exact high ∙ at_end low high also.order) in
    (omega arith, omega arith)

pub is_none : (r : Bool) (ps : List Placed) → r ≡ (length ps == 0) → Decides r (ps ≡ [])
is_none r [] same = ((λ h. refl), (λ h. same))
is_none r (p ∷ ps) same = ((λ h. let none : suc (length ps) ≡ 0 = eqb-true (suc (length ps)) 0 (sym same ∙ h) in absurd (omega arith)), (λ h. cc))

-- No beat of the window, and no beat in it.
pub none_decides : (window : ℕ) (ps : List Placed) (h : Bool) → Decides h (HasBeat ps window) → Decides (not h) ([] ≡ beats_in window ps)
none_decides window ps true decides = (
  (λ e. cc),
  (λ none. let has = decides.0 refl in
      let same : window_of has.0.beat.cycle ≡ window = has.2 in
      let lies : (window_of has.0.beat.cycle == window) ≡ true = grind (arith, nat_tests) in
      absurd (contains_none has.0 (subst (λ qs. Contains qs has.0) (sym none) (contains_kept (lies_in window) ps has.0 has.1 lies)))),
)
none_decides window ps false decides = (
  (λ e. sym (none_kept (lies_in window) ps (λ p h. elim (lies_in window p) as (λ t. lies_in window p ≡ t → t ≡ false) [
    | true ↦ λ lies. (let same : window_of p.beat.cycle ≡ window = grind (arith, nat_tests) in let wrong : false ≡ true = decides.1 (p, h, same) in cc)
    | false ↦ λ lies. refl
  ] refl))),
  (λ none. refl),
)

module _ {V : Type 0} (value : V → Frag) (low high : ℕ) (parts : List (ℕ × V)) (is : AreOfWindow low high (spanned value low high parts)) (now : List Placed) (view : in_order (spanned value low high parts) ≡ now)
    (window from to : ℕ) (span : IsSpan window from to) where
  member : (p : Placed) → Contains now p → Contains (spanned value low high parts) p
  member p h = Contains-permutation (in_order (spanned value low high parts)) (spanned value low high parts) p
      (IsPermutation-sym (spanned value low high parts) (in_order (spanned value low high parts)) (order_moves (spanned value low high parts))) (subst (λ qs. Contains qs p) (sym view) h)

  has_member : (p : Placed) → Contains (spanned value low high parts) p → Contains now p
  has_member p h = subst (λ qs. Contains qs p) view (Contains-permutation (spanned value low high parts) (in_order (spanned value low high parts)) p (order_moves (spanned value low high parts)) h)

  -- A beat of one window is none of another.
  pub other_window : (ps : List Placed) (r : Bool) → (low ≡ from → ⊥) → r ≡ (length now == 0) → r ≡ false → Decides r (now ≡ beats_in window ps)
  other_window ps r differ empty none = (
    (λ h. let wrong : false ≡ true = sym none ∙ h in cc),
    (λ same. let some : 0 < length now = filled now (sym empty ∙ none) in
        let one = item_of now some in
        let within = spanned_within value low high parts one.0 (member one.0 one.1) in
        let mine : (window_of one.0.beat.cycle == window_of low) ≡ true = is.span.exact one.0.beat.cycle ∙ within in
        let theirs : (window_of one.0.beat.cycle == window) ≡ true = (kept_from (lies_in window) ps one.0 (subst (λ qs. Contains qs one.0) same one.1)).1 in
        let alike : window_of low ≡ window = grind (arith, nat_tests) in
        absurd (differ (one_span window low high from to (subst (λ w. IsSpan w low high) alike is.span) span).0)),
  )
    where
      filled : (qs : List Placed) → (length qs == 0) ≡ false → 0 < length qs
      filled [] h = cc
      filled (q ∷ qs) h = omega arith

  same_span : low ≡ from → high ≡ to
  same_span begin = (one_span window low high from to (subst (λ w. IsSpan w low high) (ap window_of begin ∙ begins_in window from to span) is.span) span).1

  pub same_beats : low ≡ from → spanned value low high parts ≡ spanned value from to parts
  same_beats begin = ap (λ n. spanned value n high parts) begin ∙ ap (λ n. spanned value from n parts) (same_span begin)

  module _ (links : List ℕ) (fs : List Recorded) (are : IsPresent fs) (begin : low ≡ from) where
    abbrev wanted : List Placed
    wanted = beats_in window (beats_of_all links fs)

    -- As many, and all among them: they are the window's.
    pub window_decides : (r : Bool) → length (beats_within from to (beats_of_all links fs)) ≡ length (spanned value from to parts)
        → Decides r (AreAmong (spanned value from to parts) (beats_within from to (beats_of_all links fs))) → Decides r (now ≡ wanted)
    window_decides r many decides =
        let of = of_span window from to (beats_of_all links fs) span in
        let same = same_beats begin in (
          (λ yes. sym view ∙ as_many position_order position_total (in_order (spanned value low high parts)) wanted is.rise
              (IsStrictlySortedBy-filter position_order (lies_in window) (beats_of_all links fs) (beats_rise links fs (ranges_of fs are)))
              (λ p h. subst (λ qs. Contains qs p) of (decides.0 yes p (subst (λ qs. Contains qs p) same (member p (subst (λ qs. Contains qs p) view h)))))
              (order_length (spanned value low high parts) ∙ ap length same ∙ sym many ∙ ap length of)),
          (λ e. decides.1 (λ p h. subst (λ qs. Contains qs p) (e ∙ sym of) (has_member p (subst (λ qs. Contains qs p) (sym same) h)))),
        )

    -- Not as many: they are not the window's.
    pub count_decides : (r : Bool) → r ≡ false → Decides r (length (beats_within from to (beats_of_all links fs)) ≡ length (spanned value from to parts)) → Decides r (now ≡ wanted)
    count_decides r none decides =
        let of = of_span window from to (beats_of_all links fs) span in (
          (λ yes. let wrong : false ≡ true = sym none ∙ yes in cc),
          (λ e. decides.1 (ap length (of ∙ sym e ∙ sym view) ∙ order_length (spanned value low high parts) ∙ ap length (same_beats begin))),
        )
