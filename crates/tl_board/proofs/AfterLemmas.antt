-- What an edit makes of the windows of monitors.
use Rattle.std.proofs.Common.{◌≡◌, ℕ, ◌⊎◌, inl, inr, ◌==◌, true, false, cond, List, [], ◌∷◌, Option, Some, None, refl, sym, ap, subst, ◌∙◌, arith, eqb-true}
use Rattle.std.specs.Prelude.{◌↔◌, is_some, option_map}
use Rattle.std.specs.Option.{option_map_or}
use Rattle.std.specs.Ordering.{nat_cmp}
use Rattle.std.specs.BTreeMap.{insert_entry, is_at}
use Rattle.std.proofs.lemmas.Bool.Decides.{nat_tests}
use Rattle.tl_topology.specs.Topology.{number_of_name}
use Rattle.tl_beats.specs.Watches.{link_of}
use Rattle.tl_beats.specs.declared.Row.{Row}
use Rattle.tl_beats.specs.declared.watch.Watch.{Watch}
use Rattle.tl_beats.specs.declared.watch.Watch.TheVariants as watch
use Rattle.tl_definitions.specs.Passes.{IsPass}
use Rattle.tl_definitions.specs.Positions.{beats_of}
use Rattle.tl_definitions.specs.Tallies.{watching, kept_tally}
use Rattle.tl_definitions.specs.Watching.{IsWatch}
use Rattle.tl_definitions.proofs.Lists.{contains_none, contains_cases}
use Rattle.tl_edits.specs.Edits.{AnEdit, add, replace, withdraw, clear_link, set_region, remove_region, attach, retune, detach}
use Rattle.tl_edits.specs.Inputs.{InputData, watch_at, changed}
use Rattle.tl_pieces.specs.declared.key.PieceKey.{PieceKey}
use Rattle.tl_pieces.specs.Pieces.{Board, Pass, opening_of, piece_at, result_of, live_of}
use Rattle.tl_check.specs.Captured.{watched_beats}
use Rattle.tl_capture.specs.Present.{IsPresent}
use Rattle.tl_capture.specs.Windows.{beats_in, HasBeat}
use Rattle.tl_capture.proofs.LawLemmas.{one_link_is_its_own}
use Rattle.tl_board.specs.Edits.{EditsTo}
use Rattle.tl_board.specs.Spans.{SpansData, standing}
use Rattle.tl_board.specs.Touch.{TouchesLink}
use Rattle.tl_board.proofs.EditLemmas.{stands}
use Rattle.tl_board.proofs.TouchLemmas.{untouched_links, same_topology, has_beat_by}
use Rattle.tl_board.specs.declared.tally.Tally.{Tally}
use Rattle.tl_board.specs.Accepting.{opening_after, EditsBoth}
use Rattle.tl_board.specs.TouchedWatches.{edited_monitor, TouchesWatch}
use Rattle.tl_board.specs.Watches.{WatchesData, beats_for, idle, judge_for, IsOfWatch, AreWatches}
use Rattle.tl_board.proofs.MonitorLemmas.{Monitors, left, at_itself, same_number, watch_put}

-- ---- the monitors after an edit

pub put_here : (k : ℕ) (w : Option Watch) (ms : Monitors) → watch_at k (insert_entry nat_cmp ms k w) ≡ w
put_here k w ms = watch_put k k w ms ∙ ap (λ b. cond b w (watch_at k ms)) (at_itself k)

put_other : (n k : ℕ) (w : Option Watch) (ms : Monitors) → (Some k ≡ Some n → ⊥) → watch_at n (insert_entry nat_cmp ms k w) ≡ watch_at n ms
put_other n k w ms not = watch_put n k w ms ∙ elim (is_at (nat_cmp n) k) as (λ b. is_at (nat_cmp n) k ≡ b → cond b w (watch_at n ms) ≡ watch_at n ms) [
  | true ↦ λ t. absurd (not (ap Some (sym (same_number n k t))))
  | false ↦ λ t. refl
] refl

pub monitors_left : (now : InputData) (e : AnEdit) → edited_monitor e ≡ None → (changed now e).monitors ≡ now.monitors
monitors_left now (add f) h = left (number_of_name now.topo.links f.link) _ now (λ n. refl)
monitors_left now (replace f) h = left (number_of_name now.topo.links f.link) _ now (λ n. refl)
monitors_left now (withdraw name number) h = left (number_of_name now.topo.links name) _ now (λ n. refl)
monitors_left now (clear_link name) h = left (number_of_name now.topo.links name) _ now (λ n. refl)
monitors_left now (set_region name number area) h = left (number_of_name now.topo.managers name) _ now (λ n. refl)
monitors_left now (remove_region name number) h = left (number_of_name now.topo.managers name) _ now (λ n. refl)
monitors_left now (attach monitor w) h = absurd (cc)
monitors_left now (retune monitor limit) h = absurd (cc)
monitors_left now (detach monitor) h = absurd (cc)

-- Another monitor than that which is edited has the watch that it had.
pub others_left : (now : InputData) (e : AnEdit) (number : ℕ) → (edited_monitor e ≡ Some number → ⊥) → watch_at number (changed now e).monitors ≡ watch_at number now.monitors
others_left now (add f) number not = ap (watch_at number) (monitors_left now (add f) refl)
others_left now (replace f) number not = ap (watch_at number) (monitors_left now (replace f) refl)
others_left now (withdraw name n) number not = ap (watch_at number) (monitors_left now (withdraw name n) refl)
others_left now (clear_link name) number not = ap (watch_at number) (monitors_left now (clear_link name) refl)
others_left now (set_region name n area) number not = ap (watch_at number) (monitors_left now (set_region name n area) refl)
others_left now (remove_region name n) number not = ap (watch_at number) (monitors_left now (remove_region name n) refl)
others_left now (attach monitor w) number not = put_other number monitor _ now.monitors not
others_left now (retune monitor limit) number not = put_other number monitor _ now.monitors not
others_left now (detach monitor) number not = put_other number monitor _ now.monitors not

-- Each number is that of a monitor, or isn't.
pub number_or_not : (n k : ℕ) → (n ≡ k) ⊎ (Some k ≡ Some n → ⊥)
number_or_not n k = elim (n == k) as (λ b. (n == k) ≡ b → (n ≡ k) ⊎ (Some k ≡ Some n → ⊥)) [
  | true ↦ λ t. inl (eqb-true n k t)
  | false ↦ λ t. inr (λ same. let is : k ≡ n = cc in let test : (n == k) ≡ true = grind (arith, nat_tests) in cc)
] refl

pub opening_left : (e : AnEdit) (number : ℕ) (before : Option Tally) → (edited_monitor e ≡ Some number → ⊥) → opening_after e number before ≡ before
opening_left (add f) number before not = refl
opening_left (replace f) number before not = refl
opening_left (withdraw name n) number before not = refl
opening_left (clear_link name) number before not = refl
opening_left (set_region name n area) number before not = refl
opening_left (remove_region name n) number before not = refl
opening_left (retune monitor limit) number before not = refl
opening_left (attach monitor w) number before not = elim (number == monitor) as (λ b. (number == monitor) ≡ b → cond b (Some (record { count = 0 })) before ≡ before) [
  | true ↦ λ t. absurd (not (ap Some (sym (eqb-true number monitor t))))
  | false ↦ λ t. refl
] refl
opening_left (detach monitor) number before not = elim (number == monitor) as (λ b. (number == monitor) ≡ b → cond b None before ≡ before) [
  | true ↦ λ t. absurd (not (ap Some (sym (eqb-true number monitor t))))
  | false ↦ λ t. refl
] refl

-- What a monitor begins with is what it began with, or nothing.
begins_after : (e : AnEdit) (number : ℕ) (before : Option Tally) (state : Tally) → opening_after e number before ≡ Some state → (before ≡ Some state) ⊎ (state.count ≡ 0)
begins_after (add f) number before state h = inl h
begins_after (replace f) number before state h = inl h
begins_after (withdraw name n) number before state h = inl h
begins_after (clear_link name) number before state h = inl h
begins_after (set_region name n area) number before state h = inl h
begins_after (remove_region name n) number before state h = inl h
begins_after (retune monitor limit) number before state h = inl h
begins_after (attach monitor w) number before state h = elim (number == monitor) as (λ b. cond b (Some (record { count = 0 })) before ≡ Some state → (before ≡ Some state) ⊎ (state.count ≡ 0)) [
  | true ↦ λ g. inr (let zero_is : record { count = 0 } ≡ state = cc in ap (λ (t : Tally). t.count) (sym zero_is))
  | false ↦ λ g. inl g
] h
begins_after (detach monitor) number before state h = elim (number == monitor) as (λ b. cond b None before ≡ Some state → (before ≡ Some state) ⊎ (state.count ≡ 0)) [
  | true ↦ λ g. absurd (cc)
  | false ↦ λ g. inl g
] h

mapped_there : {A B : Type 0} (f : A → B) (x : Option A) → is_some (option_map f x) ≡ is_some x
mapped_there f None = refl
mapped_there f (Some x) = refl

here_is : (n k : ℕ) → n ≡ k → (n == k) ≡ true
here_is n k same = grind (arith, nat_tests)

-- The edited monitor has an opening state after the edit where it is attached then.
edited_owner : (now : InputData) (e : AnEdit) (number : ℕ) (before : Option Tally) → is_some before ≡ is_some (watch_at number now.monitors) → edited_monitor e ≡ Some number
    → is_some (opening_after e number before) ≡ is_some (watch_at number (changed now e).monitors)
edited_owner now (add f) number before h edited = absurd (cc)
edited_owner now (replace f) number before h edited = absurd (cc)
edited_owner now (withdraw name n) number before h edited = absurd (cc)
edited_owner now (clear_link name) number before h edited = absurd (cc)
edited_owner now (set_region name n area) number before h edited = absurd (cc)
edited_owner now (remove_region name n) number before h edited = absurd (cc)
edited_owner now (attach monitor w) number before h edited =
    let same : number ≡ monitor = cc in
    ap (λ b. is_some (cond b (Some (record { count = 0 })) before)) (here_is number monitor same) ∙ sym (ap is_some (subst (λ n. watch_at n (insert_entry nat_cmp now.monitors monitor (Some w)) ≡ Some w) (sym same) (put_here monitor (Some w) now.monitors)))
edited_owner now (retune monitor limit) number before h edited =
    let same : number ≡ monitor = cc in
    h ∙ ap (λ n. is_some (watch_at n now.monitors)) same ∙ sym (mapped_there _ (watch_at monitor now.monitors)) ∙ sym (ap is_some (ap (λ n. watch_at n (changed now (retune monitor limit)).monitors) same ∙ put_here monitor _ now.monitors))
edited_owner now (detach monitor) number before h edited =
    let same : number ≡ monitor = cc in
    ap (λ b. is_some (cond b None before)) (here_is number monitor same) ∙ sym (ap is_some (subst (λ n. watch_at n (insert_entry nat_cmp now.monitors monitor None) ≡ None) (sym same) (put_here monitor None now.monitors)))

edited_or_not : (e : AnEdit) (number : ℕ) → (edited_monitor e ≡ Some number) ⊎ (edited_monitor e ≡ Some number → ⊥)
edited_or_not e number = go (edited_monitor e)
  where
    go : (found : Option ℕ) → (found ≡ Some number) ⊎ (found ≡ Some number → ⊥)
    go None = inr (λ h. let never : None ≡ Some number = h in cc)
    go (Some k) = elim (number_or_not number k) [ inl same ↦ inl (ap Some (sym same)) | inr not ↦ inr not ]

kept_zero : (w : Watch) → kept_tally w 0 ≡ 0
kept_zero (watch.Budget link class limit) = refl
kept_zero (watch.After link first second) = refl

-- ---- what is left of an untouched window

module _ (now : InputData) (e : AnEdit) (before : IsPresent now.fragments) (after : IsPresent (changed now e).fragments) where
  pub same_watch : (number window : ℕ) → (TouchesWatch now e number window → ⊥) → watch_at number (changed now e).monitors ≡ watch_at number now.monitors
  same_watch number window not = others_left now e number (λ edited. not (inl edited))

  pub same_beats : (number window : ℕ) → (TouchesWatch now e number window → ⊥) → beats_in window (beats_for (changed now e) number) ≡ beats_in window (beats_for now number)
  same_beats number window not =
      ap (λ o. beats_in window (option_map_or (watched_beats (changed now e).topo (changed now e).fragments) o [])) (same_watch number window not)
      ∙ ap (λ t. beats_in window (option_map_or (watched_beats t (changed now e).fragments) (watch_at number now.monitors) [])) (same_topology now e)
      ∙ go (watch_at number now.monitors) refl
    where
      on : (w : Watch) → watch_at number now.monitors ≡ Some w → (found : Option ℕ) → number_of_name now.topo.links (link_of w) ≡ found
          → beats_in window (option_map_or (λ l. beats_of l (changed now e).fragments) found []) ≡ beats_in window (option_map_or (λ l. beats_of l now.fragments) found [])
      on w at None is = refl
      on w at (Some link) is =
          ap (beats_in window) (sym (one_link_is_its_own link (changed now e).fragments after))
          ∙ untouched_links now window (link ∷ []) e before after (λ l has touches. elim (contains_cases link [] l has) [
            | inl same ↦ not (inr (w, at, link, is, subst (λ k. TouchesLink now e k window) (sym same) touches))
            | inr none ↦ contains_none l none
          ])
          ∙ ap (beats_in window) (one_link_is_its_own link now.fragments before)

      go : (o : Option Watch) → watch_at number now.monitors ≡ o
          → beats_in window (option_map_or (watched_beats now.topo (changed now e).fragments) o []) ≡ beats_in window (option_map_or (watched_beats now.topo now.fragments) o [])
      go None at = refl
      go (Some w) at = on w at (number_of_name now.topo.links (link_of w)) refl

  result_left : (number window : ℕ) (result : Pass Tally (List Row)) → (TouchesWatch now e number window → ⊥) → IsOfWatch now number window result → IsOfWatch (changed now e) number window result
  result_left number window result not is = record {
    entry = is.entry;
    exit = is.exit;
    begins = record { shows = is.begins.shows; kept = λ w at. is.begins.kept w (sym (same_watch number window not) ∙ at) };
    ends = record { shows = is.ends.shows; kept = λ w at. is.ends.kept w (sym (same_watch number window not) ∙ at) };
    pass = subst (λ (o : Option Watch). IsPass (option_map_or (watching number) o idle) (record { entry = is.entry; beats = beats_in window (beats_for (changed now e) number); exit = is.exit; rows = result.rows }))
        (sym (same_watch number window not))
        (subst (λ ps. IsPass (judge_for now number) (record { entry = is.entry; beats = ps; exit = is.exit; rows = result.rows })) (sym (same_beats number window not)) is.pass);
  }

  -- What an edit makes of a board, so that it goes on to be one of the monitors' windows.
  pub record IsEdited (old new : Board Tally (List Row)) : Type 0 where
    pub openings : (number : ℕ) → opening_of number new.openings ≡ opening_after e number (opening_of number old.openings)
    pub fits : (w : Watch) (number : ℕ) → edited_monitor e ≡ Some number → watch_at number (changed now e).monitors ≡ Some w → IsWatch w
    pub decide : (key : PieceKey) → TouchesWatch now e key.owner key.window ⊎ (TouchesWatch now e key.owner key.window → ⊥)
    pub stays : (key : PieceKey) → (TouchesWatch now e key.owner key.window → ⊥) → piece_at key new ≡ piece_at key old
    pub result : (key : PieceKey) → TouchesWatch now e key.owner key.window → result_of (piece_at key new) ≡ None
    pub ticket : (key : PieceKey) → TouchesWatch now e key.owner key.window → live_of (piece_at key new) ≡ None
    pub there : (key : PieceKey) → TouchesWatch now e key.owner key.window → is_some (opening_of key.owner new.openings) ≡ true
        → (is_some (piece_at key new) ≡ true) ↔ HasBeat (beats_for (changed now e) key.owner) key.window

  module _ (old new : Board Tally (List Row)) (are : AreWatches now old) (is : IsEdited old new) where
    owner_left : (number : ℕ) → (edited_monitor e ≡ Some number → ⊥) → opening_of number new.openings ≡ opening_of number old.openings
    owner_left number not = is.openings number ∙ opening_left e number (opening_of number old.openings) not

    pub watched_after : AreWatches (changed now e) new
    watched_after = record {
      owners = λ number. elim (edited_or_not e number) [
        | inl edited ↦ ap is_some (is.openings number) ∙ edited_owner now e number (opening_of number old.openings) (are.owners number) edited
        | inr not ↦ ap is_some (owner_left number not) ∙ are.owners number ∙ sym (ap is_some (others_left now e number not))
      ];
      fits = λ number w at. elim (edited_or_not e number) [
        | inl edited ↦ is.fits w number edited at
        | inr not ↦ are.fits number w (sym (others_left now e number not) ∙ at)
      ];
      covered = record {
        openings = λ number state some. record {
          shows = elim (begins_after e number (opening_of number old.openings) state (sym (is.openings number) ∙ some)) [
            | inl was ↦ (are.covered.openings number state was).shows
            | inr zero_is ↦ zero_is
          ];
          kept = λ w at. kept_zero w;
        };
        windows = λ key owner. elim (is.decide key) [
          | inl touches ↦ is.there key touches owner
          | inr not ↦ (let was = are.covered.windows key (ap is_some (sym (owner_left key.owner (λ edited. not (inl edited)))) ∙ owner) in
              let still : is_some (piece_at key new) ≡ is_some (piece_at key old) = ap is_some (is.stays key not) in
              let same = same_beats key.owner key.window not in (
                (λ h. has_beat_by key.window (beats_for now key.owner) (beats_for (changed now e) key.owner) (sym same) (was.0 (sym still ∙ h))),
                (λ h. still ∙ was.1 (has_beat_by key.window (beats_for (changed now e) key.owner) (beats_for now key.owner) same h)),
              ))
        ];
        results = λ key result some. elim (is.decide key) [
          | inl touches ↦ absurd (let never : None ≡ Some result = sym (is.result key touches) ∙ some in cc)
          | inr not ↦ result_left key.owner key.window result not (are.covered.results key result (ap result_of (sym (is.stays key not)) ∙ some))
        ];
      };
    }

-- The same with the log and the windows of managers.
module _ (old : WatchesData) (e : AnEdit) (spans : SpansData) (edits : EditsTo old.spans e spans) (before : IsPresent (standing old.spans).fragments) (after : IsPresent (changed (standing old.spans) e).fragments)
    (new : Board Tally (List Row)) (is : IsEdited (standing old.spans) e before after old.board new) where
  pub both_edited : EditsBoth old e (record { spans = spans; board = new })
  both_edited = record { spans = edits; openings = is.openings; stays = is.stays; result = is.result; ticket = is.ticket }

  pub both_watched : AreWatches (standing old.spans) old.board → AreWatches (standing spans) new
  both_watched are = subst (λ now. AreWatches now new) (sym (stands old.spans e spans.log spans.board edits.log)) (watched_after (standing old.spans) e before after old.board new are is)

-- ---- what stands after an edit

pub told : (old spans : SpansData) (e : AnEdit) → EditsTo old e spans → standing spans ≡ changed (standing old) e
told old spans e edits = stands old e spans.log spans.board edits.log
