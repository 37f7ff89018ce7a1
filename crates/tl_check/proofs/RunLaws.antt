-- Later beats that break no rule may be judged before the beats of other links that lie before them.
use Rattle.std.proofs.Common.{◌≡◌, ℕ, zero, suc, ◌+◌, ◌-◌, ◌≤◌, inl, inr, Bool, true, false, cond, List, [], ◌∷◌, ◌++◌, length, get_or, Option, Some, None, refl, sym, ap, subst, ◌∙◌, arith, length-append}
use Rattle.std.specs.Prelude.{◌==◌, ◌&&◌, is_none, map, nat_lt}
use Rattle.std.specs.List.{All, AllByRecursion, Contains}
use Rattle.std.proofs.lemmas.Bool.Decides.{nat_tests}
use Rattle.std.proofs.lemmas.List.Elements.{All-contains, All-head, All-tail, Contains-append_left, Contains-append_right, Contains-append_cases, Contains-get_or}
use Rattle.tl_tables.specs.declared.Chan.{Chan}
use Rattle.tl_tables.specs.declared.Chan.TheVariants as chan
use Rattle.tl_tables.specs.Messages.{same_chan}
use Rattle.tl_beats.specs.declared.Beat.{Beat}
use Rattle.tl_beats.specs.declared.Placed.{Placed}
use Rattle.tl_beats.specs.declared.Row.{Row}
use Rattle.tl_definitions.specs.declared.Unfinished.{Unfinished}
use Rattle.tl_definitions.specs.Breaks.{row_of}
use Rattle.tl_definitions.specs.Heads.{message_of, left, after_beat}
use Rattle.tl_definitions.specs.Rules.{Manager, rules_of_message}
use Rattle.tl_definitions.specs.Judging.{Snapshot, past_with, message_in, judged_head, judged_place, judged_rules, judged_next, judging}
use Rattle.tl_definitions.specs.Passes.{rows_judged, left_after}
use Rattle.tl_definitions.specs.Past.{LinkPast}
use Rattle.tl_definitions.specs.Positions.{placed_from}
use Rattle.tl_definitions.proofs.Lists.{contains_there}
use Rattle.tl_capture.specs.Runs.{AreAhead}
use Rattle.tl_link_rules.specs.Bursts.{IsRun, later_left}
use Rattle.tl_link_rules.specs.Bursts as bursts
use Rattle.tl_check.specs.Runs.{IsQuiet, AreQuiet, with_slot}

and_false : (a b : Bool) → b ≡ false → (a && b) ≡ false
and_false false b h = refl
and_false true b h = h

pub same_is : (a b : Chan) → same_chan a b ≡ true → a ≡ b
same_is chan.A chan.A h = refl
same_is chan.B chan.B h = refl
same_is chan.C chan.C h = refl
same_is chan.D chan.D h = refl
same_is chan.E chan.E h = refl
same_is chan.A chan.B h = cc
same_is chan.A chan.C h = cc
same_is chan.A chan.D h = cc
same_is chan.A chan.E h = cc
same_is chan.B chan.A h = cc
same_is chan.B chan.C h = cc
same_is chan.B chan.D h = cc
same_is chan.B chan.E h = cc
same_is chan.C chan.A h = cc
same_is chan.C chan.B h = cc
same_is chan.C chan.D h = cc
same_is chan.C chan.E h = cc
same_is chan.D chan.A h = cc
same_is chan.D chan.B h = cc
same_is chan.D chan.C h = cc
same_is chan.D chan.E h = cc
same_is chan.E chan.A h = cc
same_is chan.E chan.B h = cc
same_is chan.E chan.C h = cc
same_is chan.E chan.D h = cc

pub same_itself : (c : Chan) → same_chan c c ≡ true
same_itself chan.A = refl
same_itself chan.B = refl
same_itself chan.C = refl
same_itself chan.D = refl
same_itself chan.E = refl

-- What is judged of a beat rests on what its channel misses and on the past alone.
by_past : (m : Manager) (s t : Snapshot) (x : Placed) (slot : Option Unfinished) → s.past ≡ t.past → judged_place m s x slot ≡ judged_place m t x slot
by_past m s t x (Some burst) e = refl
by_past m s t x None e = elim (message_of (m.links x.link) x.beat) as (λ found. judged_head m s x found ≡ judged_head m t x found) [
  | None ↦ refl
  | Some o ↦ ap (λ (past : ℕ → LinkPast). rules_of_message m past x.link (message_in (past x.link).flow x.beat o)) e
]

-- Two changes at different places.
both_ways : {A : Type 0} (p q : Bool) (f g : A → A) (a : A) → (p ≡ true → q ≡ true → ⊥) → cond p (f (cond q (g a) a)) (cond q (g a) a) ≡ cond q (g (cond p (f a) a)) (cond p (f a) a)
both_ways true true f g a apart = absurd (apart refl refl)
both_ways true false f g a apart = refl
both_ways false true f g a apart = refl
both_ways false false f g a apart = refl

-- ---- a quiet beat

quiet_past : (m : Manager) (s : Snapshot) (b : Placed) → IsQuiet m s b → (judged_next m s b).past ≡ s.past
quiet_past m s b quiet =
    let none : is_none (s.burst b.link b.beat.chan) ≡ false = ap is_none quiet.1 in
    let each : (l : ℕ) → (judged_next m s b).past l ≡ s.past l = λ l.
    ap (λ t. cond t (past_with m.exponent (s.past l) b.beat (message_of (m.links l) b.beat)) (s.past l)) (and_false (b.link == l) (is_none (s.burst b.link b.beat.chan)) none) in
    λ i. λ l. each l i

module _ (m : Manager) (s : Snapshot) (x b : Placed) (quiet : IsQuiet m s b) (apart : (x.link == b.link) ≡ false) where
  other : (b.link == x.link) ≡ false
  other = grind (arith, nat_tests)

  burst_kept : (judged_next m s x).burst b.link b.beat.chan ≡ s.burst b.link b.beat.chan
  burst_kept = rw apart refl

  place_kept : (judged_next m s b).burst x.link x.beat.chan ≡ s.burst x.link x.beat.chan
  place_kept = rw other refl

  -- It is still quiet after a beat of another link.
  still_quiet : IsQuiet m (judged_next m s x) b
  still_quiet = (
    quiet.0,
    burst_kept ∙ quiet.1,
    ap (judged_place m (judged_next m s x) b) (burst_kept ∙ quiet.1) ∙ sym (ap (judged_place m s b) quiet.1) ∙ quiet.2,
  )

  rules_kept : judged_rules m (judged_next m s b) x ≡ judged_rules m s x
  rules_kept = ap (judged_place m (judged_next m s b) x) place_kept ∙ by_past m (judged_next m s b) s x (s.burst x.link x.beat.chan) (quiet_past m s b quiet)

  not_both : (l : ℕ) (c : Chan) → ((x.link == l) && same_chan x.beat.chan c) ≡ true → ((b.link == l) && same_chan b.beat.chan c) ≡ true → ⊥
  not_both l c h g =
      let one : x.link ≡ l = grind (arith, nat_tests) in
      let two : b.link ≡ l = grind (arith, nat_tests) in
      let same : (x.link == b.link) ≡ true = (let e : x.link ≡ b.link = one ∙ sym two in grind (arith, nat_tests)) in
      let wrong : true ≡ false = sym same ∙ apart in cc

  bursts_swap : (l : ℕ) (c : Chan) → (judged_next m (judged_next m s b) x).burst l c ≡ (judged_next m (judged_next m s x) b).burst l c
  bursts_swap l c = both_ways ((x.link == l) && same_chan x.beat.chan c) ((b.link == l) && same_chan b.beat.chan c) (after_beat (m.links l) x.beat) (after_beat (m.links l) b.beat) (s.burst l c) (not_both l c)

  pasts_swap : (l : ℕ) → (judged_next m (judged_next m s b) x).past l ≡ (judged_next m (judged_next m s x) b).past l
  pasts_swap l =
      ap (λ o. cond ((x.link == l) && is_none o) (past_with m.exponent ((judged_next m s b).past l) x.beat (message_of (m.links l) x.beat)) ((judged_next m s b).past l)) place_kept
      ∙ ap (λ (past : ℕ → LinkPast). cond ((x.link == l) && is_none (s.burst x.link x.beat.chan)) (past_with m.exponent (past l) x.beat (message_of (m.links l) x.beat)) (past l)) (quiet_past m s b quiet)
      ∙ sym (ap (λ (past : ℕ → LinkPast). past l) (quiet_past m (judged_next m s x) b still_quiet))

  next_swap : judged_next m (judged_next m s b) x ≡ judged_next m (judged_next m s x) b
  next_swap = λ i. record { burst = λ l c. bursts_swap l c i; past = λ l. pasts_swap l i }

-- ---- beats that are taken ahead

rows_ahead : (m : Manager) (s : Snapshot) (b : Placed) (xs ys : List Placed) → IsQuiet m s b → AllByRecursion (λ x. (x.link == b.link) ≡ false) xs
    → rows_judged (judging m) s (xs ++ b ∷ ys) ≡ rows_judged (judging m) (judged_next m s b) (xs ++ ys)
rows_ahead m s b [] ys quiet apart = ap (λ rules. map (row_of b) rules ++ rows_judged (judging m) (judged_next m s b) ys) quiet.2
rows_ahead m s b (x ∷ xs) ys quiet apart =
    ap (λ (rows : List Row). map (row_of x) (judged_rules m s x) ++ rows) (rows_ahead m (judged_next m s x) b xs ys (still_quiet m s x b quiet apart.0) apart.1)
    ∙ ap (λ t. map (row_of x) (judged_rules m s x) ++ rows_judged (judging m) t (xs ++ ys)) (sym (next_swap m s x b quiet apart.0))
    ∙ ap (λ rules. map (row_of x) rules ++ rows_judged (judging m) (judged_next m (judged_next m s b) x) (xs ++ ys)) (sym (rules_kept m s x b quiet apart.0))

left_ahead : (m : Manager) (s : Snapshot) (b : Placed) (xs ys : List Placed) → IsQuiet m s b → AllByRecursion (λ x. (x.link == b.link) ≡ false) xs
    → left_after (judging m) s (xs ++ b ∷ ys) ≡ left_after (judging m) (judged_next m s b) (xs ++ ys)
left_ahead m s b [] ys quiet apart = refl
left_ahead m s b (x ∷ xs) ys quiet apart =
    left_ahead m (judged_next m s x) b xs ys (still_quiet m s x b quiet apart.0) apart.1
    ∙ ap (λ t. left_after (judging m) t (xs ++ ys)) (sym (next_swap m s x b quiet apart.0))

-- Judging a run ahead gives the same rows, and leaves the same.
pub run_ahead : (m : Manager) (s : Snapshot) (link number line : ℕ) (run : List Beat) (beats rest : List Placed) → AreAhead link (placed_from link number line run) beats rest
    → AreQuiet m s (placed_from link number line run)
    → (rows_judged (judging m) s beats ≡ rows_judged (judging m) (left_after (judging m) s (placed_from link number line run)) rest)
    × (left_after (judging m) s beats ≡ left_after (judging m) (left_after (judging m) s (placed_from link number line run)) rest)
run_ahead m s link number line [] beats rest is quiet = (ap (rows_judged (judging m) s) is, ap (left_after (judging m) s) is)
run_ahead m s link number line (b ∷ run) beats rest ahead quiet =
    let p : Placed = record { link = link; fragment = number; line = line; beat = b } in
    let more = run_ahead m (judged_next m s p) link number (line + 1) run (ahead.0 ++ ahead.1) rest ahead.4 quiet.1 in (
      ap (rows_judged (judging m) s) ahead.2 ∙ rows_ahead m s p ahead.0 ahead.1 quiet.0 ahead.3 ∙ more.0,
      ap (left_after (judging m) s) ahead.2 ∙ left_ahead m s p ahead.0 ahead.1 quiet.0 ahead.3 ∙ more.1,
    )

ahead_in : (link : ℕ) (run beats rest : List Placed) → AreAhead link run beats rest → (x : Placed) → Contains rest x → Contains beats x
ahead_in link [] beats rest is x h = subst (λ ps. Contains ps x) (sym is) h
ahead_in link (p ∷ run) beats rest ahead x h =
    subst (λ ps. Contains ps x) (sym ahead.2) (elim (Contains-append_cases ahead.0 ahead.1 x (ahead_in link run (ahead.0 ++ ahead.1) rest ahead.4 x h)) [
      | inl one ↦ Contains-append_left ahead.0 (p ∷ ahead.1) x one
      | inr two ↦ Contains-append_right ahead.0 (p ∷ ahead.1) x (contains_there p ahead.1 x two)
    ])

-- What is left then was left before.
pub ahead_all : (P : Placed → Type 0) (link : ℕ) (run beats rest : List Placed) → AreAhead link run beats rest → All P beats → All P rest
ahead_all P link run beats rest ahead all = λ k d within. All-contains P beats (get_or rest k d) all (ahead_in link run beats rest ahead (get_or rest k d) (Contains-get_or rest k d within))

pub ahead_fewer : (link : ℕ) (run beats rest : List Placed) → AreAhead link run beats rest → length rest ≤ length beats
ahead_fewer link [] beats rest is = (let same = ap length is in omega arith)
ahead_fewer link (p ∷ run) beats rest ahead =
    let fewer = ahead_fewer link run (ahead.0 ++ ahead.1) rest ahead.4 in
    let one = ap length ahead.2 in
    let two = length-append ahead.0 (p ∷ ahead.1) in
    let three = length-append ahead.0 ahead.1 in omega arith

-- ---- later beats of one burst

pub run_tail : (c : Chan) (head : Beat) (n : ℕ) (run : List Beat) → length run ≤ n → All (bursts.IsQuiet c head) run → IsRun c (left head n) run
run_tail c head n run few all = elim (nat_lt 0 n) as (λ t. nat_lt 0 n ≡ t → IsRun c (cond t (Some (record { head = head; missing = n })) None) run) [
  | true ↦ λ e. (few, all)
  | false ↦ λ e. (let none : n ≡ 0 = grind (arith, nat_tests) in empty run (omega (arith, none, few)))
] refl
  where
    empty : (run : List Beat) → length run ≤ 0 → run ≡ []
    empty [] h = refl
    empty (b ∷ run) h = absurd (omega arith)

pub left_more : (head : Beat) (missing n : ℕ) → suc n ≤ missing → later_left n (left head (missing - 1)) ≡ left head (missing - suc n)
left_more head missing zero h = refl
left_more head missing (suc n) h = elim (nat_lt 0 (missing - 1)) as (λ t. nat_lt 0 (missing - 1) ≡ t
    → later_left (suc n) (cond t (Some (record { head = head; missing = missing - 1 })) None) ≡ left head (missing - suc (suc n))) [
      | true ↦ λ e. ap (left head) (let same : missing - 1 - suc n ≡ missing - suc (suc n) = omega arith in same)
      | false ↦ λ e. absurd (let none : missing - 1 ≤ 0 = grind (arith, nat_tests) in omega (arith, none, h))
    ] refl

-- Where something is unfinished there already, nothing changes.
slot_stays : (s : Snapshot) (link : ℕ) (c : Chan) (slot : Option Unfinished) → s.burst link c ≡ slot → s ≡ with_slot s link c slot
slot_stays s link c slot is =
    let each : (l : ℕ) (d : Chan) → s.burst l d ≡ cond ((link == l) && same_chan c d) slot (s.burst l d) = λ l d.
    elim ((link == l) && same_chan c d) as (λ t. ((link == l) && same_chan c d) ≡ t → s.burst l d ≡ cond t slot (s.burst l d)) [
      | true ↦ λ e. (let one : link ≡ l = grind (arith, nat_tests) in
          let two : same_chan c d ≡ true = grind (arith, nat_tests) in
          subst (λ k. s.burst k d ≡ slot) one (subst (λ k. s.burst link k ≡ slot) (same_is c d two) is))
      | false ↦ λ e. refl
    ] refl in
    λ i. record { burst = λ l d. each l d i; past = s.past }

slot_twice : (s : Snapshot) (link : ℕ) (c : Chan) (one two : Option Unfinished) → with_slot (with_slot s link c one) link c two ≡ with_slot s link c two
slot_twice s link c one two =
    let each : (l : ℕ) (d : Chan) → (with_slot (with_slot s link c one) link c two).burst l d ≡ (with_slot s link c two).burst l d = λ l d.
    elim ((link == l) && same_chan c d) as (λ t. cond t two (cond t one (s.burst l d)) ≡ cond t two (s.burst l d)) [
      | true ↦ refl
      | false ↦ refl
    ] in
    λ i. record { burst = λ l d. each l d i; past = s.past }

module _ (m : Manager) (link number : ℕ) (c : Chan) where
  quiet_next : (s : Snapshot) (p : Placed) (burst : Unfinished) → IsQuiet m s p → p.link ≡ link → p.beat.chan ≡ c → s.burst link c ≡ Some burst
      → judged_next m s p ≡ with_slot s link c (left burst.head (burst.missing - 1))
  quiet_next s p burst quiet own on is =
      let each : (l : ℕ) (d : Chan) → (judged_next m s p).burst l d ≡ cond ((link == l) && same_chan c d) (left burst.head (burst.missing - 1)) (s.burst l d) = λ l d.
      ap (λ k. cond ((k == l) && same_chan p.beat.chan d) (after_beat (m.links l) p.beat (s.burst l d)) (s.burst l d)) own
      ∙ ap (λ k. cond ((link == l) && same_chan k d) (after_beat (m.links l) p.beat (s.burst l d)) (s.burst l d)) on
      ∙ elim ((link == l) && same_chan c d) as (λ t. ((link == l) && same_chan c d) ≡ t
      → cond t (after_beat (m.links l) p.beat (s.burst l d)) (s.burst l d) ≡ cond t (left burst.head (burst.missing - 1)) (s.burst l d)) [
        | true ↦ λ e. (let one : link ≡ l = grind (arith, nat_tests) in
            let two : same_chan c d ≡ true = grind (arith, nat_tests) in
            ap (after_beat (m.links l) p.beat) (subst (λ k. s.burst k d ≡ Some burst) one (subst (λ k. s.burst link k ≡ Some burst) (same_is c d two) is)))
        | false ↦ λ e. refl
      ] refl in
      let past = quiet_past m s p quiet in
      λ i. record { burst = λ l d. each l d i; past = past i }

  -- Beats that go on with a burst are quiet, and leave what it misses then.
  pub run_left : (s : Snapshot) (line : ℕ) (run : List Beat) (slot : Option Unfinished) → s.burst link c ≡ slot → IsRun c slot run
      → AreQuiet m s (placed_from link number line run) × (left_after (judging m) s (placed_from link number line run) ≡ with_slot s link c (later_left (length run) slot))
  run_left s line [] slot is runs = (tt, slot_stays s link c slot is)
  run_left s line (b ∷ run) None is runs = cc
  run_left s line (b ∷ run) (Some burst) is runs =
      let p : Placed = record { link = link; fragment = number; line = line; beat = b } in
      let first = All-head (bursts.IsQuiet c burst.head) b run runs.1 in
      let on : b.chan ≡ c = same_is b.chan c first.0 in
      let at : s.burst link b.chan ≡ Some burst = ap (s.burst link) on ∙ is in
      let quiet : IsQuiet m s p = (burst, at, ap (judged_place m s p) at ∙ first.1 (m.links link)) in
      let next : judged_next m s p ≡ with_slot s link c (left burst.head (burst.missing - 1)) = quiet_next s p burst quiet refl on is in
      let here : ((link == link) && same_chan c c) ≡ true = (let self : (link == link) ≡ true = grind (arith, nat_tests) in ap (λ t. t && same_chan c c) self ∙ same_itself c) in
      let now : (judged_next m s p).burst link c ≡ left burst.head (burst.missing - 1) = ap (λ (t : Snapshot). t.burst link c) next ∙ ap (λ t. cond t (left burst.head (burst.missing - 1)) (s.burst link c)) here in
      let many : suc (length run) ≤ burst.missing = runs.0 in
      let more = run_left (judged_next m s p) (line + 1) run (left burst.head (burst.missing - 1)) now
      (run_tail c burst.head (burst.missing - 1) run (omega (arith, many)) (All-tail (bursts.IsQuiet c burst.head) b run runs.1)) in (
        (quiet, more.0),
        more.1 ∙ ap (λ t. with_slot t link c (later_left (length run) (left burst.head (burst.missing - 1)))) next
            ∙ slot_twice s link c (left burst.head (burst.missing - 1)) (later_left (length run) (left burst.head (burst.missing - 1)))
            ∙ ap (with_slot s link c) (left_more burst.head burst.missing (length run) many),
      )
