-- A walk over the fragments of one link, and what is read of them.
use Rattle.std.proofs.Common.{◌≡◌, ℕ, ◌<◌, ◌≤◌, inl, inr, Bool, true, false, cond, not, ◌&&◌, List, [], ◌∷◌, ◌++◌, Option, Some, None, Bor, length, length-append, ◌+◌, refl, sym, ap, subst, ◌∙◌, arith}
use Rattle.std.specs.Prelude.{filter, map, min, ◌==◌, nat_lt, nat_le}
use Rattle.std.specs.declared.cmp.Ordering.{Ordering}
use Rattle.std.specs.declared.cmp.Ordering.TheVariants.{Less, Equal, Greater}
use Rattle.std.specs.Ordering.{nat_cmp, ordering_then, is_eq, is_lt, is_le}
use Rattle.std.specs.FinMap.{nat_cmp-IsAntisymmetric}
use Rattle.std.specs.Option.{option_map, option_map_or, option_copied}
use Rattle.std.specs.List.Sorted.{IsStrictlySortedBy}
use Rattle.std.proofs.lemmas.Bool.Decides.{nat_tests}
use Rattle.std.proofs.lemmas.List.Elements.{All-head, All-contains}
use Rattle.tl_beats.specs.declared.Beat.{Beat}
use Rattle.tl_beats.specs.Fragments.{Frag}
use Rattle.tl_definitions.specs.Positions.{Recorded, placed_beats, all_placed}
use Rattle.tl_definitions.proofs.Lists.{none_kept, kept_of_both, all_of}
use Rattle.tl_definitions.proofs.OrderLaws.{tied, below}
use Rattle.tl_capture.specs.Present.{range_order, IsCapture, of_link, shares, least}
use Rattle.tl_capture.specs.Windows.{is_within, beats_within}
use Rattle.tl_capture.specs.Shares.{windows_from, windows_of_all}
use Rattle.tl_capture.specs.Ranges.{Key, key_cmp, AreRanges, AreEntries, shown, from_key, is_by, meets, met, span_beats}
use Rattle.tl_capture.proofs.PresentLemmas.{placed_is_of, less_cases, less_is, ranges_tail}
use Rattle.tl_capture.proofs.EntryLemmas.{above, eq_test, entries_tail}

-- ---- entries from a key on

le_then : (o r : Ordering) → is_le (ordering_then o r) ≡ cond (is_lt o) true (is_eq o && is_le r)
le_then Less r = refl
le_then Equal r = refl
le_then Greater r = refl

lt_test : (m n : ℕ) → is_lt (nat_cmp m n) ≡ nat_lt m n
lt_test m n = elim (nat_lt m n) as (λ b. nat_lt m n ≡ b → is_lt (nat_cmp m n) ≡ b) [
  | true ↦ λ e. (let lt : m < n = grind (arith, nat_tests) in ap is_lt (below m n lt))
  | false ↦ λ e. elim (nat_lt n m) as (λ b. nat_lt n m ≡ b → is_lt (nat_cmp m n) ≡ false) [
    | true ↦ λ g. (let lt : n < m = grind (arith, nat_tests) in ap is_lt (above m n lt))
    | false ↦ λ g. (let same : m ≡ n = grind (arith, nat_tests) in ap is_lt (tied m n same))
  ] refl
] refl

le_test : (m n : ℕ) → is_le (nat_cmp m n) ≡ nat_le m n
le_test m n = elim (nat_lt m n) as (λ b. nat_lt m n ≡ b → is_le (nat_cmp m n) ≡ nat_le m n) [
  | true ↦ λ e. (let lt : m < n = grind (arith, nat_tests) in let yes : nat_le m n ≡ true = grind (arith, nat_tests) in ap is_le (below m n lt) ∙ sym yes)
  | false ↦ λ e. elim (nat_lt n m) as (λ b. nat_lt n m ≡ b → is_le (nat_cmp m n) ≡ nat_le m n) [
    | true ↦ λ g. (let lt : n < m = grind (arith, nat_tests) in let no : nat_le m n ≡ false = grind (arith, nat_tests) in ap is_le (above m n lt) ∙ sym no)
    | false ↦ λ g. (let same : m ≡ n = grind (arith, nat_tests) in let yes : nat_le m n ≡ true = grind (arith, nat_tests) in ap is_le (tied m n same) ∙ sym yes)
  ] refl
] refl

from_test : (link cycle : ℕ) (q : Key) → (is_le (key_cmp (link, cycle) q) && not false) ≡ cond (nat_lt link q.0) true ((q.0 == link) && nat_le cycle q.1)
from_test link cycle q = ap (λ t. t && true) (le_then (nat_cmp link q.0) (nat_cmp cycle q.1) ∙ ap (λ t. cond t true (is_eq (nat_cmp link q.0) && is_le (nat_cmp cycle q.1))) (lt_test link q.0)
    ∙ ap (λ t. cond (nat_lt link q.0) true (t && is_le (nat_cmp cycle q.1))) (eq_test link q.0) ∙ ap (λ t. cond (nat_lt link q.0) true ((q.0 == link) && t)) (le_test cycle q.1))
    ∙ and_true (cond (nat_lt link q.0) true ((q.0 == link) && nat_le cycle q.1))
  where
    and_true : (t : Bool) → (t && true) ≡ t
    and_true true = refl
    and_true false = refl

-- ---- tests that hold together

pub both : (a b : Bool) → (a && b) ≡ true → (a ≡ true) × (b ≡ true)
both true true h = (refl, refl)
both true false h = absurd (cc)
both false b h = absurd (cc)

all_three : (a b c : Bool) → a ≡ true → b ≡ true → c ≡ true → (a && b && c) ≡ true
all_three true true true h g k = refl
all_three true true false h g k = cc
all_three true false c h g k = cc
all_three false b c h g k = cc

without_middle : (a b c : Bool) → (a && c) ≡ false → (a && b && c) ≡ false
without_middle true true c h = h
without_middle true false c h = refl
without_middle false b c h = refl

without_last : (a b c : Bool) → (a && b) ≡ false → (a && b && c) ≡ false
without_last true true c h = absurd (cc)
without_last true false c h = refl
without_last false b c h = refl

otherwise : (t s : Bool) → cond t true s ≡ false → s ≡ false
otherwise true s h = cc
otherwise false s h = h

-- ---- what the walk meets

-- What begins no earlier than something that begins after an end does so too.
later_too : (last : Option ℕ) (low high : ℕ) → is_by last low ≡ false → low ≤ high → is_by last high ≡ false
later_too None low high h le = h
later_too (Some last) low high h le = let late : nat_le low last ≡ false = h in let also : nat_le high last ≡ false = grind (arith, nat_tests) in also

other_link : (link first : ℕ) (last : Option ℕ) (g : Recorded) → link < g.link → meets link first last g ≡ false
other_link link first last g lt =
    let no : (g.link == link) ≡ false = grind (arith, nat_tests) in
    ap (λ t. t && nat_le first g.last && is_by last g.first) no

-- None after one of a later link, or one that begins after the end, is met.
none_behind : (link first : ℕ) (last : Option ℕ) (f : Recorded) (fs : List Recorded) → AreRanges (f ∷ fs) → link ≤ f.link → (f.link == link && is_by last f.first) ≡ false → filter (meets link first last) fs ≡ []
unfolding IsStrictlySortedBy
none_behind link first last f fs are from past = none_kept (meets link first last) fs (λ g h.
    let own = All-head IsCapture f fs are.each in
    elim (less_cases (nat_cmp f.link g.link) (nat_cmp f.last g.first) (all_of (λ x. range_order f x ≡ Less) fs are.apart.0 g h)) [
      | inl by_link ↦ (let lt = less_is f.link g.link by_link in other_link link first last g (omega arith))
      | inr by_range ↦ (let same = nat_cmp-IsAntisymmetric f.link g.link by_range.0 in
          let lt = less_is f.last g.first by_range.1 in
          let order = own.order in
          elim (f.link == link) as (λ t. (f.link == link) ≡ t → meets link first last g ≡ false) [
            | true ↦ λ e. (let late : is_by last f.first ≡ false = sym (ap (λ t. t && is_by last f.first) e) ∙ past in
                without_middle (g.link == link) (nat_le first g.last) (is_by last g.first) (unmet (g.link == link) (is_by last g.first) (later_too last f.first g.first late (omega arith))))
            | false ↦ λ e. (let more : link < g.link = grind (arith, nat_tests) in other_link link first last g more)
          ] refl)
    ])
  where
    unmet : (a c : Bool) → c ≡ false → (a && c) ≡ false
    unmet true c h = h
    unmet false c h = refl

module _ {V : Type 0} (value : V → Frag) (link first : ℕ) (last : Option ℕ) where
  -- The walk gives exactly those that are met.
  pub all_met : (es : List (Key × V)) → AreEntries value es → met value last link (from_key value link first es) ≡ filter (meets link first last) (map (shown value) es)
  all_met [] are = refl
  all_met (e ∷ es) are =
      let f : Recorded = shown value e in
      let rest = filter (meets link first last) (map (shown value) es) in
      let next = all_met es (entries_tail value e es are) in
      let keyed : e.0.1 ≡ f.last = are.keyed.0 in
      elim (cond (nat_lt link e.0.0) true ((e.0.0 == link) && nat_le first e.0.1)) as (λ t. cond (nat_lt link e.0.0) true ((e.0.0 == link) && nat_le first e.0.1) ≡ t
      → met value last link (cond (is_le (key_cmp (link, first) e.0) && not false) (e ∷ from_key value link first es) (from_key value link first es)) ≡ cond (meets link first last f) (f ∷ rest) rest) [
        | true ↦ λ from. ap (λ t. met value last link (cond t (e ∷ from_key value link first es) (from_key value link first es))) (from_test link first e.0 ∙ from)
            ∙ elim (e.0.0 == link && is_by last f.first) as (λ t. (e.0.0 == link && is_by last f.first) ≡ t → cond t (f ∷ met value last link (from_key value link first es)) [] ≡ cond (meets link first last f) (f ∷ rest) rest) [
              | true ↦ λ on. ap (λ fs. f ∷ fs) next ∙ sym (ap (λ t. cond t (f ∷ rest) rest) (is_met e.0.0 e.0.1 f.last f.first keyed from on))
              | false ↦ λ past. sym (ap (λ t. cond t (f ∷ rest) rest) (without_middle (e.0.0 == link) (nat_le first f.last) (is_by last f.first) past)
                  ∙ none_behind link first last f (map (shown value) es) are.ranges (at_least e.0.0 e.0.1 from) past)
            ] refl
        | false ↦ λ from. ap (λ t. met value last link (cond t (e ∷ from_key value link first es) (from_key value link first es))) (from_test link first e.0 ∙ from) ∙ next
            ∙ sym (ap (λ t. cond t (f ∷ rest) rest) (without_last (e.0.0 == link) (nat_le first f.last) (is_by last f.first)
            (subst (λ n. ((e.0.0 == link) && nat_le first n) ≡ false) keyed (otherwise (nat_lt link e.0.0) ((e.0.0 == link) && nat_le first e.0.1) from))))
      ] refl
    where
      is_met : (of end high low : ℕ) → end ≡ high → cond (nat_lt link of) true ((of == link) && nat_le first end) ≡ true → (of == link && is_by last low) ≡ true → (of == link && nat_le first high && is_by last low) ≡ true
      is_met of end high low same from on =
          let two = both (of == link) (is_by last low) on in
          let test : (of == link) ≡ true = two.0 in
          let alike : of ≡ link = grind (arith, nat_tests) in
          let here : nat_lt link of ≡ false = grind (arith, nat_tests) in
          let after = both (of == link) (nat_le first end) (sym (ap (λ t. cond t true ((of == link) && nat_le first end)) here) ∙ from) in
          all_three (of == link) (nat_le first high) (is_by last low) test (subst (λ n. nat_le first n ≡ true) same after.1) two.1

      at_least : (of end : ℕ) → cond (nat_lt link of) true ((of == link) && nat_le first end) ≡ true → link ≤ of
      at_least of end from = elim (nat_lt link of) as (λ t. nat_lt link of ≡ t → cond t true ((of == link) && nat_le first end) ≡ true → link ≤ of) [
        | true ↦ λ e h. grind (arith, nat_tests)
        | false ↦ λ e h. (let test : (of == link) ≡ true = (both (of == link) (nat_le first end) h).0 in grind (arith, nat_tests))
      ] refl from

-- From the first cycle on and without an end, that is the whole link.
pub whole_link : (link : ℕ) (fs : List Recorded) → filter (meets link 0 None) fs ≡ of_link link fs
whole_link link [] = refl
whole_link link (f ∷ fs) = ap (λ t. cond t (f ∷ filter (meets link 0 None) fs) (filter (meets link 0 None) fs)) (alone (f.link == link) (nat_le 0 f.last) (let le : nat_le 0 f.last ≡ true = grind (arith, nat_tests) in le))
    ∙ elim (f.link == link) as (λ t. cond t (f ∷ filter (meets link 0 None) fs) (filter (meets link 0 None) fs) ≡ cond t (f ∷ of_link link fs) (of_link link fs)) [
      | true ↦ ap (λ gs. f ∷ gs) (whole_link link fs)
      | false ↦ whole_link link fs
    ]
  where
    alone : (a b : Bool) → b ≡ true → (a && b && true) ≡ a
    alone true true h = refl
    alone true false h = cc
    alone false b h = refl

-- ---- the lowest of numbers

abbrev pub lower_all : Option ℕ → List ℕ → Option ℕ
lower_all best [] = best
lower_all best (n ∷ ns) = lower_all (Some (option_map_or (min n) best n)) ns

abbrev merge : Option ℕ → Option ℕ → Option ℕ
merge None o = o
merge (Some b) o = Some (option_map_or (min b) o b)

merged : (best rest : Option ℕ) (n : ℕ) → merge (Some (option_map_or (min n) best n)) rest ≡ merge best (Some (option_map_or (min n) rest n))
merged None None n = refl
merged None (Some m) n = refl
merged (Some b) None n = ap Some (omega arith)
merged (Some b) (Some m) n = ap Some (omega arith)

lower_merge : (best : Option ℕ) (ns : List ℕ) → lower_all best ns ≡ merge best (least ns)
lower_merge None [] = refl
lower_merge (Some b) [] = refl
lower_merge best (n ∷ ns) = lower_merge (Some (option_map_or (min n) best n)) ns ∙ merged best (least ns) n

pub lower_least : (ns : List ℕ) → lower_all None ns ≡ least ns
lower_least ns = lower_merge None ns

-- ---- what is read

-- of each, one after the other
abbrev pub read_all : {X : Type 0} → (Recorded → List X) → List Recorded → List X
read_all read [] = []
read_all read (f ∷ fs) = read f ++ read_all read fs

pub copied_map : {X Y : Type 0} (f : X → Y) (o : Option (Bor X)) → option_map (λ x. f x.now) o ≡ option_map f (option_copied o)
copied_map f None = refl
copied_map f (Some x) = refl

span_none : (from to : ℕ) (f : Recorded) → IsCapture f → ((cycle : ℕ) → f.first ≤ cycle → cycle ≤ f.last → (nat_le from cycle && nat_le cycle to) ≡ false) → span_beats from to f ≡ []
span_none from to f is outside = none_kept (is_within from to) (placed_beats f) (λ p h.
    let within = All-contains (λ (b : Beat). (f.first ≤ b.cycle) × (b.cycle ≤ f.last)) f.beats p.beat is.beats.within (placed_is_of f.link f.number 2 f.beats p h).2 in
    outside p.beat.cycle within.0 within.1)

pub span_read : (from to link : ℕ) (fs : List Recorded) → AreRanges fs → read_all (span_beats from to) (filter (meets link from (Some to)) fs) ≡ beats_within from to (all_placed (of_link link fs))
span_read from to link [] are = refl
span_read from to link (f ∷ fs) are =
    let some = filter (meets link from (Some to)) fs in
    let known = span_read from to link fs (ranges_tail f fs are) in
    let own = All-head IsCapture f fs are.each in
    elim (f.link == link) as (λ t. (f.link == link) ≡ t → read_all (span_beats from to) (cond (t && nat_le from f.last && nat_le f.first to) (f ∷ some) some) ≡ beats_within from to (all_placed (cond t (f ∷ of_link link fs) (of_link link fs)))) [
      | true ↦ λ e. elim (nat_le from f.last && nat_le f.first to) as (λ t. (nat_le from f.last && nat_le f.first to) ≡ t → read_all (span_beats from to) (cond t (f ∷ some) some) ≡ beats_within from to (placed_beats f ++ all_placed (of_link link fs))) [
        | true ↦ λ s. ap (λ ps. span_beats from to f ++ ps) known ∙ sym (kept_of_both (is_within from to) (placed_beats f) (all_placed (of_link link fs)))
        | false ↦ λ s. known ∙ sym (kept_of_both (is_within from to) (placed_beats f) (all_placed (of_link link fs))
            ∙ ap (λ ps. ps ++ beats_within from to (all_placed (of_link link fs))) (span_none from to f own (λ cycle low high. outside f.first f.last cycle s low high)))
      ] refl
      | false ↦ λ e. known
    ] refl
  where
    outside : (first last cycle : ℕ) → (nat_le from last && nat_le first to) ≡ false → first ≤ cycle → cycle ≤ last → (nat_le from cycle && nat_le cycle to) ≡ false
    outside first last cycle none low high = elim (nat_le from last) as (λ t. nat_le from last ≡ t → (t && nat_le first to) ≡ false → (nat_le from cycle && nat_le cycle to) ≡ false) [
      | true ↦ λ e h. (let late : nat_le first to ≡ false = h in grind (arith, nat_tests))
      | false ↦ λ e h. grind (arith, nat_tests)
    ] refl none

-- the windows of a fragment
abbrev pub own_windows : Recorded → List ℕ
own_windows f = windows_from 0 f.beats

windows_joined : (fs : List Recorded) → read_all own_windows fs ≡ windows_of_all fs
windows_joined [] = refl
windows_joined (f ∷ fs) = ap (λ ws. own_windows f ++ ws) (windows_joined fs)

pub windows_read : (link : ℕ) (fs : List Recorded) → read_all own_windows (filter (meets link 0 None) fs) ≡ windows_of_all (of_link link fs)
windows_read link fs = ap (read_all own_windows) (whole_link link fs) ∙ windows_joined (of_link link fs)

-- the number of a fragment, if it isn't this one
abbrev pub other_number : ℕ → Recorded → List ℕ
other_number number f = cond (f.number == number) [] (f.number ∷ [])

pub numbers_read : (link first last number : ℕ) (fs : List Recorded) → read_all (other_number number) (filter (meets link first (Some last)) fs)
    ≡ map (λ (g : Recorded). g.number) (filter (λ g. not (g.number == number) && shares link first last g) fs)
numbers_read link first last number [] = refl
numbers_read link first last number (g ∷ fs) = step (shares link first last g) (numbers_read link first last number fs)
  where
    some : List Recorded
    some = filter (meets link first (Some last)) fs

    others : List Recorded
    others = filter (λ x. not (x.number == number) && shares link first last x) fs

    step : (s : Bool) → read_all (other_number number) some ≡ map (λ (x : Recorded). x.number) others
        → read_all (other_number number) (cond s (g ∷ some) some) ≡ map (λ (x : Recorded). x.number) (cond (not (g.number == number) && s) (g ∷ others) others)
    step true known = elim (g.number == number) as (λ b. cond b [] (g.number ∷ []) ++ read_all (other_number number) some ≡ map (λ (x : Recorded). x.number) (cond (not b && true) (g ∷ others) others)) [
      | true ↦ known
      | false ↦ ap (λ ns. g.number ∷ ns) known
    ]
    step false known = elim (g.number == number) as (λ b. read_all (other_number number) some ≡ map (λ (x : Recorded). x.number) (cond (not b && false) (g ∷ others) others)) [ true ↦ known | false ↦ known ]

-- How many beats are read more.
pub one_more : (from to : ℕ) (f : Recorded) (fs : List Recorded) (n : ℕ) → length (span_beats from to f) ≡ n → length (read_all (span_beats from to) (f ∷ fs)) ≡ n + length (read_all (span_beats from to) fs)
one_more from to f fs n many = length-append (span_beats from to f) (read_all (span_beats from to) fs) ∙ ap (λ m. m + length (read_all (span_beats from to) fs)) many
