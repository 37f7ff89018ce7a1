-- Fragments that are present, and the order of their beats by link.
use Rattle.std.proofs.Common.{◌≡◌, ℕ, suc, ◌+◌, ◌<◌, ◌≤◌, ◌⊎◌, inl, inr, Bool, true, false, cond, ◌||◌, ◌&&◌, List, [], ◌∷◌, length, get_or, refl, sym, ap, subst, ◌∙◌, arith}
use Rattle.std.specs.Prelude.{filter, ◌==◌, nat_lt}
use Rattle.std.specs.declared.cmp.Ordering.{Ordering}
use Rattle.std.specs.declared.cmp.Ordering.TheVariants.{Less, Equal, Greater}
use Rattle.std.specs.Ordering.{nat_cmp, ordering_then}
use Rattle.std.specs.FinMap.{nat_cmp-IsAntisymmetric}
use Rattle.std.specs.List.{Contains, AllAdjacentBelow, list_any}
use Rattle.std.specs.List.Sorted.{IsStrictlySortedBy}
use Rattle.std.proofs.lemmas.Bool.Decides.{nat_tests}
use Rattle.std.proofs.lemmas.List.Elements.{All-nil, All-head, All-tail, All-filter, All-contains, Contains-append_left, Contains-append_right, Contains-append_cases}
use Rattle.std.proofs.lemmas.List.Kept.{IsStrictlySortedBy-filter}
use Rattle.tl_tables.specs.Messages.{chan_number}
use Rattle.tl_beats.specs.declared.Beat.{Beat}
use Rattle.tl_beats.specs.declared.Placed.{Placed}
use Rattle.tl_beats.specs.Beats.{rises}
use Rattle.tl_definitions.specs.Positions.{Recorded, placed_from, placed_beats, all_placed, position_order, beats_of_all}
use Rattle.tl_definitions.proofs.Lists.{contains_none, contains_here, contains_there, contains_cases, all_of, all_by}
use Rattle.tl_definitions.proofs.OrderLaws.{then_less, tie_then_less, tied, below}
use Rattle.tl_definitions.proofs.PositionLaws.{beats_are_in_order}
use Rattle.tl_definitions.proofs.RisingLaws.{strict_both}
use Rattle.tl_capture.specs.Present.{range_order, IsCapture, IsPresent}
use Rattle.tl_capture.specs.Ranges.{AreRanges}
use Rattle.tl_capture.proofs.OrderLemmas.{link_order, link_total, apart_by_link, ordered_apart, strict_from}

pub ranges_of : (fs : List Recorded) → IsPresent fs → AreRanges fs
ranges_of fs is = record { each = is.each; apart = is.apart }

pub no_ranges : AreRanges []
unfolding IsStrictlySortedBy
no_ranges = record { each = All-nil IsCapture; apart = tt }

pub ranges_tail : (f : Recorded) (fs : List Recorded) → AreRanges (f ∷ fs) → AreRanges fs
unfolding IsStrictlySortedBy
ranges_tail f fs is = record { each = All-tail IsCapture f fs is.each; apart = is.apart.1 }

pub ranges_kept : (p : Recorded → Bool) (fs : List Recorded) → AreRanges fs → AreRanges (filter p fs)
ranges_kept p fs is = record { each = All-filter p IsCapture fs is.each; apart = IsStrictlySortedBy-filter range_order p fs is.apart }

-- ---- one fragment

abbrev pub placed_at : ℕ → ℕ → ℕ → Beat → Placed
placed_at link number line beat = record { link = link; fragment = number; line = line; beat = beat }

pub placed_is_of : (link number line : ℕ) (beats : List Beat) (p : Placed) → Contains (placed_from link number line beats) p → (p.link ≡ link) × (p.fragment ≡ number) × Contains beats p.beat
placed_is_of link number line [] p h = absurd (contains_none p h)
placed_is_of link number line (b ∷ beats) p h = elim (contains_cases (placed_at link number line b) (placed_from link number (line + 1) beats) p h) [
  | inl is ↦ subst (λ q. (q.link ≡ link) × (q.fragment ≡ number) × Contains (b ∷ beats) q.beat) is (refl, refl, contains_here b beats)
  | inr rest ↦ (let known = placed_is_of link number (line + 1) beats p rest in (known.0, known.1, contains_there b beats p.beat known.2))
]

by_cycle_and_channel : (a b : Beat) → rises a b ≡ true → ordering_then (nat_cmp a.cycle b.cycle) (nat_cmp (chan_number a.chan) (chan_number b.chan)) ≡ Less
by_cycle_and_channel a b h = elim (nat_lt a.cycle b.cycle) as (λ t. nat_lt a.cycle b.cycle ≡ t → ordering_then (nat_cmp a.cycle b.cycle) (nat_cmp (chan_number a.chan) (chan_number b.chan)) ≡ Less) [
  | true ↦ λ e. (let lt : a.cycle < b.cycle = grind (arith, nat_tests) in then_less (nat_cmp a.cycle b.cycle) (nat_cmp (chan_number a.chan) (chan_number b.chan)) (below a.cycle b.cycle lt))
  | false ↦ λ e. (let other : (a.cycle == b.cycle && nat_lt (chan_number a.chan) (chan_number b.chan)) ≡ true = sym (ap (λ t. t || (a.cycle == b.cycle && nat_lt (chan_number a.chan) (chan_number b.chan))) e) ∙ h in
      let same : a.cycle ≡ b.cycle = grind (arith, nat_tests) in
      let lt : chan_number a.chan < chan_number b.chan = grind (arith, nat_tests) in
      tie_then_less (nat_cmp a.cycle b.cycle) (nat_cmp (chan_number a.chan) (chan_number b.chan)) (tied a.cycle b.cycle same) (below (chan_number a.chan) (chan_number b.chan) lt))
] refl

next_less : (link number line other : ℕ) (a b : Beat) → rises a b ≡ true → link_order (placed_at link number line a) (placed_at link number other b) ≡ Less
next_less link number line other a b h =
    tie_then_less (nat_cmp link link) (ordering_then (nat_cmp a.cycle b.cycle) (nat_cmp (chan_number a.chan) (chan_number b.chan))) (tied link link refl) (by_cycle_and_channel a b h)

-- An item below the first of a strict list is below them all.
strict_next : (x y : Placed) (ys : List Placed) → link_order x y ≡ Less → IsStrictlySortedBy link_order (y ∷ ys) → IsStrictlySortedBy link_order (x ∷ y ∷ ys)
unfolding IsStrictlySortedBy
strict_next x y ys less s = ((less, all_by (λ z. link_order x z ≡ Less) ys (λ z h. link_total.trans x y z less (all_of (λ w. link_order y w ≡ Less) ys s.0 z h))), s)

rising_tail : (a : Beat) (beats : List Beat) → AllAdjacentBelow (λ a b. rises a b ≡ true) (a ∷ beats) (length (a ∷ beats)) → AllAdjacentBelow (λ a b. rises a b ≡ true) beats (length beats)
rising_tail a beats s k d lt =
    let next : suc k + 1 ≡ suc (k + 1) = omega arith in
    subst (λ n. rises (get_or (a ∷ beats) (suc k) d) (get_or (a ∷ beats) n d) ≡ true) next (s (suc k) d (omega arith))

placed_rise : (link number line : ℕ) (beats : List Beat) → AllAdjacentBelow (λ a b. rises a b ≡ true) beats (length beats) → IsStrictlySortedBy link_order (placed_from link number line beats)
unfolding IsStrictlySortedBy
placed_rise link number line [] s = tt
placed_rise link number line (a ∷ []) s = (tt, tt)
placed_rise link number line (a ∷ b ∷ beats) s =
    strict_next (placed_at link number line a) (placed_at link number (line + 1) b) (placed_from link number (line + 1 + 1) beats)
    (next_less link number line (line + 1) a b (s 0 a (omega arith))) (placed_rise link number (line + 1) (b ∷ beats) (rising_tail a (b ∷ beats) s))

-- ---- all fragments

pub placed_from_some : (fs : List Recorded) (p : Placed) → Contains (all_placed fs) p → (f : Recorded) × Contains fs f × Contains (placed_beats f) p
placed_from_some [] p h = absurd (contains_none p h)
placed_from_some (f ∷ fs) p h = elim (Contains-append_cases (placed_beats f) (all_placed fs) p h) [
  | inl a ↦ (f, contains_here f fs, a)
  | inr b ↦ (let known = placed_from_some fs p b in (known.0, contains_there f fs known.0 known.1, known.2))
]

pub some_placed : (fs : List Recorded) (f : Recorded) (p : Placed) → Contains fs f → Contains (placed_beats f) p → Contains (all_placed fs) p
some_placed [] f p h g = absurd (contains_none f h)
some_placed (x ∷ fs) f p h g = elim (contains_cases x fs f h) [
  | inl e ↦ Contains-append_left (placed_beats x) (all_placed fs) p (subst (λ y. Contains (placed_beats y) p) (sym e) g)
  | inr r ↦ Contains-append_right (placed_beats x) (all_placed fs) p (some_placed fs f p r g)
]

-- What it is that one fragment lies before another.
pub less_cases : (o r : Ordering) → ordering_then o r ≡ Less → (o ≡ Less) ⊎ ((o ≡ Equal) × (r ≡ Less))
less_cases Less r h = inl refl
less_cases Equal r h = inr (refl, h)
less_cases Greater r h = cc

less_test : (t u : Bool) → cond t Less (cond u Equal Greater) ≡ Less → t ≡ true
less_test true u h = refl
less_test false true h = cc
less_test false false h = cc

pub less_is : (m n : ℕ) → nat_cmp m n ≡ Less → m < n
less_is m n h = let test : nat_lt m n ≡ true = less_test (nat_lt m n) (m == n) h in grind (arith, nat_tests)

beats_between : (f g : Recorded) (p q : Placed) → IsCapture f → IsCapture g → range_order f g ≡ Less → Contains (placed_beats f) p → Contains (placed_beats g) q → link_order p q ≡ Less
beats_between f g p q is also less at there =
    let one = placed_is_of f.link f.number 2 f.beats p at in
    let two = placed_is_of g.link g.number 2 g.beats q there in
    let rest : Ordering = ordering_then (nat_cmp p.beat.cycle q.beat.cycle) (nat_cmp (chan_number p.beat.chan) (chan_number q.beat.chan)) in
    elim (less_cases (nat_cmp f.link g.link) (nat_cmp f.last g.first) less) [
      | inl by_link ↦ (let lt = less_is f.link g.link by_link in let here : p.link ≡ f.link = one.0 in let other : q.link ≡ g.link = two.0 in
          then_less (nat_cmp p.link q.link) rest (below p.link q.link (omega arith)))
      | inr by_range ↦ (let lt = less_is f.last g.first by_range.1 in
          let same = nat_cmp-IsAntisymmetric f.link g.link by_range.0 in let here : p.link ≡ f.link = one.0 in let other : q.link ≡ g.link = two.0 in
          let within = All-contains (λ (b : Beat). (f.first ≤ b.cycle) × (b.cycle ≤ f.last)) f.beats p.beat is.beats.within one.2 in
          let beyond = All-contains (λ (b : Beat). (g.first ≤ b.cycle) × (b.cycle ≤ g.last)) g.beats q.beat also.beats.within two.2 in
          let most : p.beat.cycle ≤ f.last = within.1 in let least : g.first ≤ q.beat.cycle = beyond.0 in
          tie_then_less (nat_cmp p.link q.link) rest (tied p.link q.link (here ∙ same ∙ sym other))
          (then_less (nat_cmp p.beat.cycle q.beat.cycle) (nat_cmp (chan_number p.beat.chan) (chan_number q.beat.chan)) (below p.beat.cycle q.beat.cycle (omega arith))))
    ]

pub placed_strict : (fs : List Recorded) → AreRanges fs → IsStrictlySortedBy link_order (all_placed fs)
unfolding IsStrictlySortedBy
placed_strict [] is = tt
placed_strict (f ∷ fs) is =
    let own = All-head IsCapture f fs is.each in
    let rest = All-tail IsCapture f fs is.each in
    strict_both link_order link_total (placed_beats f) (all_placed fs) (placed_rise f.link f.number 2 f.beats own.beats.rising) (placed_strict fs (ranges_tail f fs is))
    (λ p q h g. let found = placed_from_some fs q g in
    beats_between f found.0 p q own (All-contains IsCapture fs found.0 rest found.1) (all_of (λ x. range_order f x ≡ Less) fs is.apart.0 found.0 found.1) h found.2)

-- The definitions' beats of links are in strict order.
pub beats_rise : (links : List ℕ) (fs : List Recorded) → AreRanges fs → IsStrictlySortedBy position_order (beats_of_all links fs)
beats_rise links fs is =
    let own : List Recorded = filter (λ f. list_any (λ link. f.link == link) links) fs in
    strict_from (beats_of_all links fs) (beats_are_in_order links fs).0
    (ordered_apart (all_placed own) (apart_by_link (all_placed own) (placed_strict own (ranges_kept (λ f. list_any (λ link. f.link == link) links) fs is))))
