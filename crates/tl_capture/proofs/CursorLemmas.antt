-- What cursors have left.
use Rattle.std.proofs.Common.{◌≡◌, ℕ, zero, suc, length, take, take_all, drop, length-drop, ◌+◌, ◌-◌, ◌<◌, inl, inr, true, false, ◌||◌, ◌&&◌, List, [], ◌∷◌, get_or, refl, sym, ap, subst, ◌∙◌, arith}
use Rattle.std.specs.Prelude.{◌==◌, nat_lt}
use Rattle.std.specs.declared.cmp.Ordering.TheVariants.{Less}
use Rattle.std.specs.Ordering.{nat_cmp, ordering_then}
use Rattle.std.specs.List.{Contains, sum_by}
use Rattle.std.specs.List.Sorted.{IsStrictlySortedBy, IsPermutation}
use Rattle.std.proofs.lemmas.Bool.Decides.{nat_tests}
use Rattle.std.proofs.lemmas.List.Elements.{Contains-append_left, Contains-append_right, Contains-append_cases}
use Rattle.std.proofs.lemmas.List.Sorted.{Contains-permutation, IsPermutation-sym, sum_by-IsPermutation}
use Rattle.std.proofs.lemmas.List.Sums.{sum_by-cons, sum_by-append}
use Rattle.tl_beats.specs.declared.Beat.{Beat}
use Rattle.tl_beats.specs.declared.Placed.{Placed}
use Rattle.tl_capture.specs.declared.cursor.Cursor.{Cursor}
use Rattle.tl_tables.specs.Messages.{chan_number}
use Rattle.tl_beats.specs.Beats.{rises}
use Rattle.tl_capture.specs.Rising.{AreRising}
use Rattle.tl_definitions.specs.Positions.{position_order, placed_from, in_order}
use Rattle.tl_capture.specs.Cursors.{here, after, beats_left, all_left}
use Rattle.tl_definitions.proofs.Lists.{contains_none, contains_here, contains_there, contains_cases, all_of, all_by}
use Rattle.tl_definitions.proofs.OrderLaws.{then_less, tie_then_less, tied, below}
use Rattle.tl_definitions.proofs.PositionLaws.{position_total}
use Rattle.tl_capture.proofs.OrderLemmas.{AreApart, at_place}
use Rattle.tl_capture.proofs.TurnLemmas.{one_order}

-- ---- the beats of one fragment

pub rising_tail : (a : Beat) (beats : List Beat) → AreRising (a ∷ beats) → AreRising beats
rising_tail a beats s k d lt =
    let next : suc k + 1 ≡ suc (k + 1) = omega arith in
    subst (λ n. rises (get_or (a ∷ beats) (suc k) d) (get_or (a ∷ beats) n d) ≡ true) next (s (suc k) d (omega arith))

pub rising_drop : (n : ℕ) (a : Beat) (beats : List Beat) → AreRising (a ∷ beats) → AreRising (drop n beats)
rising_drop zero a beats s = rising_tail a beats s
rising_drop (suc n) a [] s = rising_tail a [] s
rising_drop (suc n) a (b ∷ beats) s = rising_drop n b beats (rising_tail a (b ∷ beats) s)

pub placed_drop : (link number line n : ℕ) (beats : List Beat) → drop n (placed_from link number line beats) ≡ placed_from link number (line + n) (drop n beats)
placed_drop link number line zero beats = ap (λ k. placed_from link number k beats) (let e : line ≡ line + 0 = omega arith in e)
placed_drop link number line (suc n) [] = refl
placed_drop link number line (suc n) (b ∷ beats) = placed_drop link number (line + 1) n beats ∙ ap (λ k. placed_from link number k (drop n beats)) (let e : line + 1 + n ≡ line + suc n = omega arith in e)

-- What a slice has from n on.
pub from_on : (n : ℕ) (beats : List Beat) → take (length beats - n) (drop n beats) ≡ drop n beats
from_on n beats = take_all (length beats - n) (drop n beats) (let many = length-drop n beats in omega (arith, many))

-- They are of their link.
pub placed_link : (link number line : ℕ) (beats : List Beat) (p : Placed) → Contains (placed_from link number line beats) p → p.link ≡ link
placed_link link number line [] p h = absurd (contains_none p h)
placed_link link number line (b ∷ beats) p h = elim (contains_cases _ (placed_from link number (line + 1) beats) p h) [
  | inl is ↦ ap (λ (q : Placed). q.link) (sym is)
  | inr there ↦ placed_link link number (line + 1) beats p there
]

abbrev placed_at : ℕ → ℕ → ℕ → Beat → Placed
placed_at link number line beat = record { link = link; fragment = number; line = line; beat = beat }

next_less : (link number line other : ℕ) (a b : Beat) → rises a b ≡ true → position_order (placed_at link number line a) (placed_at link number other b) ≡ Less
next_less link number line other a b h = elim (nat_lt a.cycle b.cycle) as (λ t. nat_lt a.cycle b.cycle ≡ t → position_order (placed_at link number line a) (placed_at link number other b) ≡ Less) [
  | true ↦ λ e. (let lt : a.cycle < b.cycle = grind (arith, nat_tests) in then_less (nat_cmp a.cycle b.cycle) (ordering_then (nat_cmp (chan_number a.chan) (chan_number b.chan)) (nat_cmp link link)) (below a.cycle b.cycle lt))
  | false ↦ λ e. (let other : (a.cycle == b.cycle && nat_lt (chan_number a.chan) (chan_number b.chan)) ≡ true = sym (ap (λ t. t || (a.cycle == b.cycle && nat_lt (chan_number a.chan) (chan_number b.chan))) e) ∙ h in
      let same : a.cycle ≡ b.cycle = grind (arith, nat_tests) in
      let lt : (chan_number a.chan) < (chan_number b.chan) = grind (arith, nat_tests) in
      tie_then_less (nat_cmp a.cycle b.cycle) (ordering_then (nat_cmp (chan_number a.chan) (chan_number b.chan)) (nat_cmp link link)) (tied a.cycle b.cycle same) (then_less (nat_cmp (chan_number a.chan) (chan_number b.chan)) (nat_cmp link link) (below (chan_number a.chan) (chan_number b.chan) lt)))
] refl

-- An item below the first of a strict list is below them all.
strict_next : (x y : Placed) (ys : List Placed) → position_order x y ≡ Less → IsStrictlySortedBy position_order (y ∷ ys) → IsStrictlySortedBy position_order (x ∷ y ∷ ys)
unfolding IsStrictlySortedBy
strict_next x y ys less s = ((less, all_by (λ z. position_order x z ≡ Less) ys (λ z h. position_total.trans x y z less (all_of (λ w. position_order y w ≡ Less) ys s.0 z h))), s)

pub placed_rise : (link number line : ℕ) (beats : List Beat) → AreRising beats → IsStrictlySortedBy position_order (placed_from link number line beats)
unfolding IsStrictlySortedBy
placed_rise link number line [] s = tt
placed_rise link number line (a ∷ []) s = (tt, tt)
placed_rise link number line (a ∷ b ∷ beats) s =
    strict_next (placed_at link number line a) (placed_at link number (line + 1) b) (placed_from link number (line + 1 + 1) beats)
    (next_less link number line (line + 1) a b (s 0 a (omega arith))) (placed_rise link number (line + 1) (b ∷ beats) (rising_tail a (b ∷ beats) s))

-- A cursor's next beat lies before those after it.
pub next_first : (c : Cursor) (p : Placed) → Contains (after c) p → position_order (here c) p ≡ Less
unfolding IsStrictlySortedBy
next_first c p h = all_of (λ q. position_order (here c) q ≡ Less) (after c) (placed_rise c.link c.fragment c.line (c.next.now ∷ c.rest.now) c.rising).0 p h

-- ---- the beats of several

pub left_from : (cs : List Cursor) (p : Placed) → Contains (all_left cs) p → (c : Cursor) × Contains cs c × Contains (beats_left c) p
left_from [] p h = absurd (contains_none p h)
left_from (c ∷ cs) p h = elim (Contains-append_cases (beats_left c) (all_left cs) p h) [
  | inl a ↦ (c, contains_here c cs, a)
  | inr b ↦ (let known = left_from cs p b in (known.0, contains_there c cs known.0 known.1, known.2))
]

pub left_has : (cs : List Cursor) (c : Cursor) (p : Placed) → Contains cs c → Contains (beats_left c) p → Contains (all_left cs) p
left_has [] c p h g = absurd (contains_none c h)
left_has (x ∷ cs) c p h g = elim (contains_cases x cs c h) [
  | inl e ↦ Contains-append_left (beats_left x) (all_left cs) p (subst (λ y. Contains (beats_left y) p) (sym e) g)
  | inr r ↦ Contains-append_right (beats_left x) (all_left cs) p (left_has cs c p r g)
]

left_sum : (f : Placed → ℕ) (cs : List Cursor) → sum_by f (all_left cs) ≡ sum_by (λ c. sum_by f (beats_left c)) cs
left_sum f [] = refl
left_sum f (c ∷ cs) =
    let both = sum_by-append f (beats_left c) (all_left cs) in
    let rest = left_sum f cs in
    let all = sum_by-cons (λ (x : Cursor). sum_by f (beats_left x)) c cs in
    omega arith

-- The same cursors in another order have the same beats left.
pub left_apart : (cs ds : List Cursor) → IsPermutation cs ds → AreApart (all_left cs) → AreApart (all_left ds)
left_apart cs ds moved apart p =
    let own : Cursor → ℕ = λ c. sum_by (at_place p) (beats_left c) in
    let one = left_sum (at_place p) cs in
    let two = left_sum (at_place p) ds in
    let same = sum_by-IsPermutation own cs ds moved in
    let most = apart p in omega arith

pub left_order : (cs ds : List Cursor) → IsPermutation cs ds → AreApart (all_left cs) → in_order (all_left cs) ≡ in_order (all_left ds)
left_order cs ds moved apart = one_order (all_left cs) (all_left ds) apart (left_apart cs ds moved apart)
    (λ p. (
      (λ h. let found = left_from cs p h in left_has ds found.0 p (Contains-permutation cs ds found.0 moved found.1) found.2),
      (λ h. let found = left_from ds p h in left_has cs found.0 p (Contains-permutation ds cs found.0 (IsPermutation-sym cs ds moved) found.1) found.2),
    ))
