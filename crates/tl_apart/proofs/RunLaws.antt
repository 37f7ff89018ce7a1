-- Later beats of a burst that break no rule.
use Rattle.std.proofs.Common.{◌≡◌, ℕ, zero, suc, ◌+◌, ◌-◌, ◌≤◌, true, false, cond, List, [], ◌∷◌, ◌++◌, length, take, drop, Option, Some, None, refl, sym, ap, subst, ◌∙◌, arith}
use Rattle.std.specs.Prelude.{is_none, map}
use Rattle.std.proofs.lemmas.List.Elements.{All-head, All-tail}
use Rattle.tl_tables.specs.declared.Chan.{Chan}
use Rattle.tl_tables.specs.Messages.{same_chan}
use Rattle.tl_beats.specs.Beats.{IsWellFormed}
use Rattle.tl_beats.specs.declared.Beat.{Beat}
use Rattle.tl_beats.specs.declared.Placed.{Placed}
use Rattle.tl_definitions.specs.declared.Unfinished.{Unfinished}
use Rattle.tl_definitions.specs.Breaks.{row_of}
use Rattle.tl_definitions.specs.Events.{event_of, place_event, with_event, link_events}
use Rattle.tl_definitions.specs.Heads.{message_of, left, after_beat}
use Rattle.tl_definitions.specs.Judging.{past_with}
use Rattle.tl_definitions.specs.LinkPasses.{LinkSnapshot, link_place, link_rules, link_next, link_judging}
use Rattle.tl_definitions.specs.Passes.{rows_judged, left_after}
use Rattle.tl_definitions.specs.Positions.{placed_from}
use Rattle.tl_definitions.specs.Rules.{Manager}
use Rattle.tl_definitions.proofs.ChainLaws.{rows_judged-append, left_after-append}
use Rattle.tl_link_rules.specs.Bursts.{IsRun, slot_at, slots_with, later_left}
use Rattle.tl_link_rules.specs.Bursts as bursts
use Rattle.tl_link_rules.specs.Flow as flow_state
use Rattle.tl_client_rules.specs.Client as client_state
use Rattle.tl_state.specs.Slots.{slot_of}
use Rattle.std.proofs.lemmas.List.{drop-drop}
use Rattle.tl_check.proofs.RunStates.{later_formed}
use Rattle.tl_check.proofs.RunLaws.{same_is, same_itself, run_tail, left_more}
use Rattle.tl_apart.specs.Events.{said}
use Rattle.tl_apart.specs.LinkJudge.{Shows, AreFormed, HasRun, with_burst}
use Rattle.tl_apart.specs.declared.link_judge.Findings.{Findings}
use Rattle.tl_apart.specs.declared.link_judge.LinkJudge.{LinkJudge}
use Rattle.tl_apart.proofs.FragmentLaws.{GoesOn, events_append}

burst_stays : (s : LinkSnapshot) (c : Chan) (slot : Option Unfinished) → s.burst c ≡ slot → s ≡ with_burst s c slot
burst_stays s c slot is =
    let each : (d : Chan) → s.burst d ≡ cond (same_chan c d) slot (s.burst d) = λ d. elim (same_chan c d) as (λ t. same_chan c d ≡ t → s.burst d ≡ cond t slot (s.burst d)) [
      | true ↦ λ e. subst (λ k. s.burst k ≡ slot) (same_is c d e) is
      | false ↦ λ e. refl
    ] refl in
    λ i. record { burst = λ d. each d i; past = s.past }

burst_twice : (s : LinkSnapshot) (c : Chan) (one two : Option Unfinished) → with_burst (with_burst s c one) c two ≡ with_burst s c two
burst_twice s c one two =
    let each : (d : Chan) → cond (same_chan c d) two (cond (same_chan c d) one (s.burst d)) ≡ cond (same_chan c d) two (s.burst d) = λ d.
    elim (same_chan c d) as (λ t. cond t two (cond t one (s.burst d)) ≡ cond t two (s.burst d)) [ true ↦ refl | false ↦ refl ] in
    λ i. record { burst = λ d. each d i; past = s.past }

module _ (m : Manager) (link number : ℕ) (c : Chan) where
  quiet_next : (s : LinkSnapshot) (p : Placed) (burst : Unfinished) → p.beat.chan ≡ c → s.burst c ≡ Some burst → link_next m s p ≡ with_burst s c (left burst.head (burst.missing - 1))
  quiet_next s p burst on is =
      let later : is_none (s.burst p.beat.chan) ≡ false = ap (λ k. is_none (s.burst k)) on ∙ ap is_none is in
      let each : (d : Chan) → (link_next m s p).burst d ≡ cond (same_chan c d) (left burst.head (burst.missing - 1)) (s.burst d) = λ d.
      ap (λ k. cond (same_chan k d) (after_beat (m.links p.link) p.beat (s.burst d)) (s.burst d)) on
      ∙ elim (same_chan c d) as (λ t. same_chan c d ≡ t → cond t (after_beat (m.links p.link) p.beat (s.burst d)) (s.burst d) ≡ cond t (left burst.head (burst.missing - 1)) (s.burst d)) [
        | true ↦ λ e. ap (after_beat (m.links p.link) p.beat) (subst (λ k. s.burst k ≡ Some burst) (same_is c d e) is)
        | false ↦ λ e. refl
      ] refl in
      let past : (link_next m s p).past ≡ s.past = ap (λ t. cond t (past_with m.exponent s.past p.beat (message_of (m.links p.link) p.beat)) s.past) later in
      λ i. record { burst = λ d. each d i; past = past i }

  -- They have no rows, tell nothing, and leave what their burst misses then.
  pub run_left : (s : LinkSnapshot) (line : ℕ) (run : List Beat) (slot : Option Unfinished) → s.burst c ≡ slot → IsRun c slot run
      → (rows_judged (link_judging m) s (placed_from link number line run) ≡ []) × (link_events m s (placed_from link number line run) ≡ [])
      × (left_after (link_judging m) s (placed_from link number line run) ≡ with_burst s c (later_left (length run) slot))
  run_left s line [] slot is runs = (refl, refl, burst_stays s c slot is)
  run_left s line (b ∷ run) None is runs = cc
  run_left s line (b ∷ run) (Some burst) is runs =
      let p : Placed = record { link = link; fragment = number; line = line; beat = b } in
      let first = All-head (bursts.IsQuiet c burst.head) b run runs.1 in
      let on : b.chan ≡ c = same_is b.chan c first.0 in
      let at : s.burst b.chan ≡ Some burst = ap s.burst on ∙ is in
      let rules : link_rules m s p ≡ [] = ap (link_place m s p) at ∙ first.1 (m.links link) in
      let silent : event_of m s p ≡ None = ap (place_event m s p) at in
      let next : link_next m s p ≡ with_burst s c (left burst.head (burst.missing - 1)) = quiet_next s p burst on is in
      let now : (link_next m s p).burst c ≡ left burst.head (burst.missing - 1) = ap (λ (t : LinkSnapshot). t.burst c) next
      ∙ ap (λ t. cond t (left burst.head (burst.missing - 1)) (s.burst c)) (same_itself c) in
      let many : suc (length run) ≤ burst.missing = runs.0 in
      let more = run_left (link_next m s p) (line + 1) run (left burst.head (burst.missing - 1)) now
      (run_tail c burst.head (burst.missing - 1) run (omega (arith, many)) (All-tail (bursts.IsQuiet c burst.head) b run runs.1)) in (
        ap (λ rs. map (row_of p) rs ++ rows_judged (link_judging m) (link_next m s p) (placed_from link number (line + 1) run)) rules ∙ more.0,
        ap (λ e. with_event e (link_events m (link_next m s p) (placed_from link number (line + 1) run))) silent ∙ more.1,
        more.2 ∙ ap (λ t. with_burst t c (later_left (length run) (left burst.head (burst.missing - 1)))) next
            ∙ burst_twice s c (left burst.head (burst.missing - 1)) (later_left (length run) (left burst.head (burst.missing - 1)))
            ∙ ap (with_burst s c) (left_more burst.head burst.missing (length run) many),
      )

-- ---- the judge

module _ (old new : LinkJudge) (c : Chan) (count : ℕ) (slots : (d : Chan) → slot_at new.bursts d ≡ slots_with c count (slot_at old.bursts) d) where
  pub run_formed : AreFormed old → AreFormed new
  run_formed formed d burst h =
      elim (same_chan c d) as (λ t. cond t (later_left count (slot_at old.bursts d)) (slot_at old.bursts d) ≡ Some burst → IsWellFormed burst.head) [
        | true ↦ λ g. later_formed count (slot_at old.bursts d) burst (formed d) g
        | false ↦ λ g. formed d burst g
      ] (sym (slots d) ∙ h)

  pub run_has : (m : Manager) (s : LinkSnapshot) (exponent link number line : ℕ) (run : List Beat) → Shows exponent old s → IsRun c (slot_at old.bursts c) run → length run ≡ count
      → new.flow ≡ old.flow → new.client ≡ old.client → new.granted ≡ old.granted → HasRun m s exponent new (placed_from link number line run)
  run_has m s exponent link number line run shows runs many flow client granted =
      let gone = run_left m link number c s line run (slot_at old.bursts c) (sym (shows.bursts c)) runs in
      let each : (d : Chan) → slot_at new.bursts d ≡ cond (same_chan c d) (later_left (length run) (slot_at old.bursts c)) (s.burst d) = λ d.
      slots d ∙ elim (same_chan c d) as (λ t. same_chan c d ≡ t → cond t (later_left count (slot_at old.bursts d)) (slot_at old.bursts d) ≡ cond t (later_left (length run) (slot_at old.bursts c)) (s.burst d)) [
        | true ↦ λ e. ap (λ k. later_left k (slot_at old.bursts d)) (sym many) ∙ ap (λ k. later_left (length run) (slot_at old.bursts k)) (sym (same_is c d e))
        | false ↦ λ e. shows.bursts d
      ] refl in
      record {
        rows = gone.0;
        events = gone.1;
        shows = subst (Shows exponent new) (sym gone.2) (record {
          bursts = each;
          flow = ap flow_state.shown flow ∙ shows.flow;
          client = subst (λ k. client_state.Shows exponent k s.past) (sym client) shows.client;
          granted = λ sink. ap (λ g. slot_of g sink) granted ∙ shows.granted sink;
        });
      }

-- ---- a fragment's beats

pub placed_split : (link number line n : ℕ) (beats : List Beat) → placed_from link number line beats ≡ placed_from link number line (take n beats) ++ placed_from link number (line + n) (drop n beats)
placed_split link number line zero beats = ap (λ k. placed_from link number k beats) (let e : line ≡ line + 0 = omega arith in e)
placed_split link number line (suc n) [] = refl
placed_split link number line (suc n) (b ∷ beats) = ap (λ ps. record { link = link; fragment = number; line = line; beat = b } ∷ ps) (
    placed_split link number (line + 1) n beats
    ∙ ap (λ k. placed_from link number (line + 1) (take n beats) ++ placed_from link number k (drop n beats)) (let e : line + 1 + n ≡ line + suc n = omega arith in e))

-- The judge is past these beats.
pub goes_past : (m : Manager) (s : LinkSnapshot) (exponent : ℕ) (old new : LinkJudge) (entry found : Findings) (all rest run beats : List Placed) (on : GoesOn m s exponent old entry found all rest)
    → rest ≡ run ++ beats → HasRun m on.here exponent new run → GoesOn m s exponent new entry found all beats
goes_past m s exponent old new entry found all rest run beats on is ran =
    let here : LinkSnapshot = on.here in
    let next : LinkSnapshot = left_after (link_judging m) here run in
    record {
      here = next;
      shows = ran.shows;
      rows = ap (λ rs. found.rows.items ++ rs) (sym (ap (λ rs. rs ++ rows_judged (link_judging m) next beats) ran.rows) ∙ sym (rows_judged-append (link_judging m) here run beats))
          ∙ sym (ap (λ ps. found.rows.items ++ rows_judged (link_judging m) here ps) is) ∙ on.rows;
      left = sym (left_after-append (link_judging m) here run beats) ∙ sym (ap (left_after (link_judging m) here) is) ∙ on.left;
      events = ap (λ es. map said found.events.items ++ es) (sym (ap (λ es. es ++ link_events m next beats) ran.events) ∙ sym (events_append m here run beats))
          ∙ sym (ap (λ ps. map said found.events.items ++ link_events m here ps) is) ∙ on.events;
    }

-- Those that are left after one beat, and those after it that were taken with it.
pub after_run : (link number place n : ℕ) (beats : List Beat) → placed_from link number (place + 2 + 1) (drop (place + 1) beats)
    ≡ placed_from link number (place + 2 + 1) (take n (drop (place + 1) beats)) ++ placed_from link number (place + 1 + n + 2) (drop (place + 1 + n) beats)
after_run link number place n beats =
    let run : List Placed = placed_from link number (place + 2 + 1) (take n (drop (place + 1) beats)) in
    placed_split link number (place + 2 + 1) n (drop (place + 1) beats)
    ∙ ap (λ k. run ++ placed_from link number k (drop n (drop (place + 1) beats))) (let e : place + 2 + 1 + n ≡ place + 1 + n + 2 = omega arith in e)
    ∙ ap (λ bs. run ++ placed_from link number (place + 1 + n + 2) bs) (drop-drop n (place + 1) beats)
