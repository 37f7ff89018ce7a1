-- Beats before a cycle and after it, and their rows.
use Rattle.std.proofs.Common.{◌≡◌, ℕ, ◌+◌, ◌<◌, ◌≤◌, ◌^◌, inl, inr, Bool, true, false, ◌&&◌, ◌||◌, List, [], ◌∷◌, ◌++◌, Option, Some, None, refl, sym, ap, subst, ◌∙◌, arith, append_assoc}
use Rattle.std.specs.Prelude.{filter, map, reverse, nat_lt, nat_le}
use Rattle.std.specs.List.{Contains}
use Rattle.std.specs.List.Sorted.{IsStrictlySortedBy}
use Rattle.std.specs.Ordering.{nat_cmp}
use Rattle.std.proofs.lemmas.Bool.Decides.{nat_tests}
use Rattle.std.proofs.lemmas.List.Elements.{All-contains, Contains-append_left, Contains-append_right, Contains-append_cases}
use Rattle.std.proofs.lemmas.List.Kept.{IsStrictlySortedBy-filter}
use Rattle.tl_beats.specs.declared.Beat.{Beat}
use Rattle.tl_beats.specs.declared.Placed.{Placed}
use Rattle.tl_beats.specs.declared.Row.{Row}
use Rattle.tl_definitions.specs.Breaks as breaks
use Rattle.tl_definitions.specs.Breaks.{row_of, rules_at}
use Rattle.tl_definitions.specs.Judging.{snapshot, judging}
use Rattle.tl_definitions.specs.Passes.{rows_judged, left_after}
use Rattle.tl_definitions.specs.Positions.{Recorded, position_order, beats_of_all}
use Rattle.tl_definitions.specs.Rules.{Manager}
use Rattle.tl_definitions.proofs.JudgingLaws.{next_snapshot, all_exact}
use Rattle.tl_definitions.proofs.Lists.{contains_here, contains_kept, kept_from, onto, onto_reverse}
use Rattle.tl_definitions.proofs.PositionLaws.{beats_are_in_order, position_total, positions_are_ordered}
use Rattle.tl_definitions.proofs.ReportLaws.{strict_one, rows_are_breaks}
use Rattle.tl_definitions.proofs.RisingLaws.{strict_both}
use Rattle.tl_capture.specs.Present.{IsCapture, IsPresent}
use Rattle.tl_capture.specs.Windows.{is_within, beats_within}
use Rattle.tl_capture.proofs.GatherLemmas.{link_of_any}
use Rattle.tl_capture.proofs.LawLemmas.{formed_of_all}
use Rattle.tl_capture.proofs.PresentLemmas.{ranges_of, beats_rise, placed_is_of}
use Rattle.tl_check.specs.Jobs as jobs
use Rattle.tl_check.specs.declared.state.SpanState.{SpanState}
use Rattle.tl_midway.specs.Midway.{beginning_of}
use Rattle.tl_midway.specs.Walked as walked
use Rattle.tl_midway.specs.declared.midway.Midway.{Midway}
use Rattle.tl_midway.specs.declared.state.MidwayState.{MidwayState}
use Rattle.tl_midway.proofs.MidwayReportLaws.{printed_from}
use Rattle.tl_midway.proofs.WalkLaws.{printed_both}
use Rattle.tl_stream.specs.Courses.{beats_before}
use Rattle.tl_stream.specs.Pasts.{IsOf, StandsFor, GoesOn, rows_after, rows_in}
use Rattle.tl_stream.specs.declared.past.Past.{Past}
use Rattle.tl_stream.specs.declared.past.Past.TheVariants as past

-- ---- beats in order

pub beats_are_strict : (links : List ℕ) (fs : List Recorded) → IsPresent fs → IsStrictlySortedBy position_order (beats_of_all links fs)
beats_are_strict links fs is = beats_rise links fs (ranges_of fs is)

pub cycle_is_short : (links : List ℕ) (fs : List Recorded) → IsPresent fs → (p : Placed) → Contains (beats_of_all links fs) p → p.beat.cycle < 2 ^ 64
cycle_is_short links fs is p h = (formed_of_all links fs (ranges_of fs is) p h).cycle

-- A beat is one of a fragment of the links, in its range.
pub of_fragment : (links : List ℕ) (fs : List Recorded) → IsPresent fs → (p : Placed) → Contains (beats_of_all links fs) p
    → (f : Recorded) × Contains fs f × Contains links f.link × (f.first ≤ p.beat.cycle) × (p.beat.cycle ≤ f.last)
of_fragment links fs is p h =
    let found = ((beats_are_in_order links fs).1 p).0 h in
    let own = All-contains IsCapture fs found.0 is.each found.1 in
    let within = All-contains (λ (b : Beat). (found.0.first ≤ b.cycle) × (b.cycle ≤ found.0.last)) found.0.beats p.beat own.beats.within (placed_is_of found.0.link found.0.number 2 found.0.beats p found.3).2 in
    (found.0, found.1, link_of_any links found.0.link found.2, within.0, within.1)

-- A fragment that stays keeps its beats.
pub beat_carried : (links : List ℕ) (fs gs : List Recorded) → IsPresent fs → (p : Placed) → Contains (beats_of_all links fs) p
    → ((f : Recorded) → Contains fs f → Contains links f.link → f.first ≤ p.beat.cycle → p.beat.cycle ≤ f.last → Contains gs f) → Contains (beats_of_all links gs) p
beat_carried links fs gs is p h stays =
    let found = ((beats_are_in_order links fs).1 p).0 h in
    let own = All-contains IsCapture fs found.0 is.each found.1 in
    let within = All-contains (λ (b : Beat). (found.0.first ≤ b.cycle) × (b.cycle ≤ found.0.last)) found.0.beats p.beat own.beats.within (placed_is_of found.0.link found.0.number 2 found.0.beats p found.3).2 in
    ((beats_are_in_order links gs).1 p).1 (found.0, stays found.0 found.1 (link_of_any links found.0.link found.2) within.0 within.1, found.2, found.3)

-- Where the same beats pass a test, they are one list.
pub same_beats : (keep : Placed → Bool) (links : List ℕ) (fs gs : List Recorded) → IsPresent fs → IsPresent gs
    → ((p : Placed) → keep p ≡ true → Contains (beats_of_all links fs) p → Contains (beats_of_all links gs) p)
    → ((p : Placed) → keep p ≡ true → Contains (beats_of_all links gs) p → Contains (beats_of_all links fs) p)
    → filter keep (beats_of_all links fs) ≡ filter keep (beats_of_all links gs)
same_beats keep links fs gs is are there back =
    let ps : List Placed = beats_of_all links fs in
    let qs : List Placed = beats_of_all links gs in
    strict_one position_order position_total (filter keep ps) (filter keep qs)
    (IsStrictlySortedBy-filter position_order keep ps (beats_are_strict links fs is)) (IsStrictlySortedBy-filter position_order keep qs (beats_are_strict links gs are))
    (λ p. (
      (λ h. let kept = kept_from keep ps p h in contains_kept keep qs p (there p kept.1 kept.0) kept.1),
      (λ h. let kept = kept_from keep qs p h in contains_kept keep ps p (back p kept.1 kept.0) kept.1),
    ))

-- Beats that pass either test, of which one comes before the other.
pub parted : (first second both : Placed → Bool) (ps : List Placed) → IsStrictlySortedBy position_order ps
    → ((p : Placed) → Contains ps p → both p ≡ (first p || second p))
    → ((p q : Placed) → Contains ps p → Contains ps q → first p ≡ true → second q ≡ true → p.beat.cycle < q.beat.cycle)
    → filter both ps ≡ filter first ps ++ filter second ps
parted first second both ps strict either before =
    strict_one position_order position_total (filter both ps) (filter first ps ++ filter second ps)
    (IsStrictlySortedBy-filter position_order both ps strict)
    (strict_both position_order position_total (filter first ps) (filter second ps) (IsStrictlySortedBy-filter position_order first ps strict) (IsStrictlySortedBy-filter position_order second ps strict)
    (λ p q h g. let here = kept_from first ps p h in let there = kept_from second ps q g in positions_are_ordered.by_cycle p q (before p q here.0 there.0 here.1 there.1)))
    (λ p. (
      (λ h. let kept = kept_from both ps p h in
          elim (first p) as (λ t. first p ≡ t → (t || second p) ≡ true → Contains (filter first ps ++ filter second ps) p) [
            | true ↦ λ e g. Contains-append_left (filter first ps) (filter second ps) p (contains_kept first ps p kept.0 e)
            | false ↦ λ e g. Contains-append_right (filter first ps) (filter second ps) p (contains_kept second ps p kept.0 g)
          ] refl (sym (either p kept.0) ∙ kept.1)),
      (λ h. elim (Contains-append_cases (filter first ps) (filter second ps) p h) [
        | inl here ↦ (let kept = kept_from first ps p here in contains_kept both ps p kept.0 (either p kept.0 ∙ ap (λ t. t || second p) kept.1))
        | inr there ↦ (let kept = kept_from second ps p there in contains_kept both ps p kept.0 (either p kept.0 ∙ or_second (first p) (second p) kept.1))
      ]),
    ))
  where
    or_second : (s t : Bool) → t ≡ true → (s || t) ≡ true
    or_second true t h = refl
    or_second false t h = h

-- The beats before a cycle are those before a lower one and those from that one on.
pub before_both : (from to : ℕ) (ps : List Placed) → IsStrictlySortedBy position_order ps → from ≤ to → beats_before (to + 1) ps ≡ beats_before from ps ++ beats_within from to ps
before_both from to ps strict order = parted (λ p. nat_lt p.beat.cycle from) (is_within from to) (λ p. nat_lt p.beat.cycle (to + 1)) ps strict
    (λ p h. each p.beat.cycle) (λ p q h g here there. apart p.beat.cycle q.beat.cycle here there)
  where
    each : (cycle : ℕ) → nat_lt cycle (to + 1) ≡ (nat_lt cycle from || (nat_le from cycle && nat_le cycle to))
    each cycle = elim (nat_lt cycle from) as (λ t. nat_lt cycle from ≡ t → nat_lt cycle (to + 1) ≡ (t || (nat_le from cycle && nat_le cycle to))) [
      | true ↦ λ e. (let less : cycle < from = grind (arith, nat_tests) in let below : cycle < to + 1 = omega (arith, less, order) in let yes : nat_lt cycle (to + 1) ≡ true = grind (arith, nat_tests) in yes)
      | false ↦ λ e. elim (nat_le cycle to) as (λ t. nat_le cycle to ≡ t → nat_lt cycle (to + 1) ≡ (nat_le from cycle && t)) [
        | true ↦ λ k. (let at : nat_le from cycle ≡ true = grind (arith, nat_tests) in let yes : nat_lt cycle (to + 1) ≡ true = grind (arith, nat_tests) in yes ∙ sym (ap (λ s. s && true) at))
        | false ↦ λ k. (let at : nat_le from cycle ≡ true = grind (arith, nat_tests) in let no : nat_lt cycle (to + 1) ≡ false = grind (arith, nat_tests) in no ∙ sym (ap (λ s. s && false) at))
      ] refl
    ] refl

    apart : (cycle other : ℕ) → nat_lt cycle from ≡ true → (nat_le from other && nat_le other to) ≡ true → cycle < other
    apart cycle other here there = grind (arith, nat_tests)

-- ---- rows

whole_both : (m : Manager) (before xs ys : List Placed) → breaks.rows_after m before (xs ++ ys) ≡ breaks.rows_after m before xs ++ breaks.rows_after m (onto before xs) ys
whole_both m before [] ys = refl
whole_both m before (p ∷ xs) ys =
    ap (λ rows. map (row_of p) (rules_at m before p) ++ rows) (whole_both m (p ∷ before) xs ys)
    ∙ sym (append_assoc (map (row_of p) (rules_at m before p)) (breaks.rows_after m (p ∷ before) xs) (breaks.rows_after m (onto (p ∷ before) xs) ys))

rows_both : (midway : Option Midway) (m : Manager) (before xs ys : List Placed) → rows_after midway m before (xs ++ ys) ≡ rows_after midway m before xs ++ rows_after midway m (onto before xs) ys
rows_both None m before xs ys = whole_both m before xs ys
rows_both (Some law) m before xs ys = printed_both m (beginning_of law m) before xs ys

pub none_after : (midway : Option Midway) (m : Manager) (before : List Placed) → rows_after midway m before [] ≡ []
none_after None m before = refl
none_after (Some law) m before = refl

-- So are those of beats that come after others.
pub rows_in_both : (midway : Option Midway) (m : Manager) (xs ys : List Placed) → rows_in midway m (xs ++ ys) ≡ rows_in midway m xs ++ rows_after midway m (reverse xs) ys
rows_in_both midway m xs ys = rows_both midway m [] xs ys ∙ ap (λ before. rows_in midway m xs ++ rows_after midway m before ys) (onto_reverse [] xs)

onto_both : {X : Type 0} (before xs ys : List X) → onto (onto before xs) ys ≡ onto before (xs ++ ys)
onto_both before [] ys = refl
onto_both before (x ∷ xs) ys = onto_both (x ∷ before) xs ys

reverse_both : {X : Type 0} (xs ys : List X) → onto (reverse xs) ys ≡ reverse (xs ++ ys)
reverse_both xs ys = ap (λ before. onto before ys) (sym (onto_reverse [] xs)) ∙ onto_both [] xs ys ∙ onto_reverse [] (xs ++ ys)

left_is : (m : Manager) (before beats : List Placed) → left_after (judging m) (snapshot m before) beats ≡ snapshot m (onto before beats)
left_is m before [] = refl
left_is m before (p ∷ beats) = ap (λ s. left_after (judging m) s beats) (next_snapshot m before p) ∙ left_is m (p ∷ before) beats

-- ---- states

-- A state of a whole run that goes on after beats, and one where nobody recorded the first.
pub whole_goes_on : (m : Manager) (old new : SpanState) (beats : List Placed) (rows : List Row) → jobs.GoesOn m old beats new rows → GoesOn m (past.Whole old) beats (past.Whole new) rows
whole_goes_on m old new beats rows gone = record { is_of = gone.is_of; goes = goes }
  where
    goes : (midway : Option Midway) (before : List Placed) → StandsFor midway m (past.Whole old) (reverse before)
        → StandsFor midway m (past.Whole new) (reverse (before ++ beats)) × (rows ≡ rows_after midway m (reverse before) beats)
    goes None before stands = (
      record {
        is_of = gone.is_of;
        shows = gone.left ∙ ap (λ s. left_after (judging m) s beats) stands.shows ∙ left_is m (reverse before) beats ∙ ap (snapshot m) (reverse_both before beats);
      },
      gone.found ∙ ap (λ s. rows_judged (judging m) s beats) stands.shows ∙ all_exact m (reverse before) beats,
    )
    goes (Some law) before stands = absurd stands

pub middle_goes_on : (m : Manager) (old new : MidwayState) (beats : List Placed) (rows : List Row) → walked.GoesOn m old beats new rows → GoesOn m (past.Middle old) beats (past.Middle new) rows
middle_goes_on m old new beats rows gone = record { is_of = gone.is_of; goes = goes }
  where
    goes : (midway : Option Midway) (before : List Placed) → StandsFor midway m (past.Middle old) (reverse before)
        → StandsFor midway m (past.Middle new) (reverse (before ++ beats)) × (rows ≡ rows_after midway m (reverse before) beats)
    goes None before stands = absurd stands
    goes (Some law) before stands = let both = gone.goes (beginning_of law m) before stands.1 in ((gone.is_of.known, both.0), both.1)

-- A state that stands for beats of a manager is one of it.
pub stands_is_of : (midway : Option Midway) (m : Manager) (state : Past) (before : List Placed) → StandsFor midway m state before → IsOf m state
stands_is_of None m (past.Whole state) before stands = stands.is_of
stands_is_of None m (past.Middle state) before stands = absurd stands
stands_is_of (Some law) m (past.Whole state) before stands = absurd stands
stands_is_of (Some law) m (past.Middle state) before stands = record { known = stands.0; start = beginning_of law m; before = before; stands = stands.1 }

-- The links of a manager rise.
pub links_rise : (m : Manager) (state : Past) → IsOf m state → IsStrictlySortedBy nat_cmp m.clients
links_rise m (past.Whole state) is = is.rises
links_rise m (past.Middle state) is = is.stands.readings.rises

-- A state that stands for beats and goes on after others stands for both, and the rows of both are those before and those that came.
pub goes_on_stands : (midway : Option Midway) (m : Manager) (old new : Past) (xs ys : List Placed) (rows : List Row) → StandsFor midway m old (reverse xs) → GoesOn m old ys new rows
    → StandsFor midway m new (reverse (xs ++ ys)) × (rows_in midway m (xs ++ ys) ≡ rows_in midway m xs ++ rows)
goes_on_stands midway m old new xs ys rows stands gone =
    let both = gone.goes midway xs stands in (both.0, rows_in_both midway m xs ys ∙ ap (λ more. rows_in midway m xs ++ more) (sym both.1))

-- ---- links

-- A row is of the link of one of the beats.
pub row_from_beat : (midway : Option Midway) (m : Manager) (beats : List Placed) (row : Row) → Contains (rows_in midway m beats) row → (p : Placed) × Contains beats p × (row.link ≡ p.link)
row_from_beat None m beats row h =
    let broken = (rows_are_breaks m beats row).0 h in
    let p : Placed = broken.2 in
    (p, subst (λ ps. Contains ps p) (sym broken.3) (Contains-append_right broken.0 (p ∷ broken.1) p (contains_here p broken.1)), ap (λ (r : Row). r.link) broken.5)
row_from_beat (Some law) m beats row h =
    let found = printed_from m (beginning_of law m) [] beats row h in
    (found.0, found.1, ap (λ (r : Row). r.link) found.2)
