-- The monitors after one edit more are those that are attached.
use Rattle.std.proofs.Common.{◌≡◌, ℕ, ◌<◌, ◌⊎◌, inl, inr, true, false, cond, List, Option, Some, None, refl, sym, ap, subst, ◌∙◌}
use Rattle.std.specs.Prelude.{slice_set, is_some, if◌then◌else◌, nat_le}
use Rattle.std.specs.Arc.{arc_value}
use Rattle.std.specs.Option.{option_map, option_map_or, option_and_then}
use Rattle.std.specs.Ordering.{nat_cmp}
use Rattle.std.specs.BTreeMap.{insert_entry, is_at}
use Rattle.std.specs.List.Sorted.{IsStrictlySortedBy}
use Rattle.std.specs.Map.{keys_of, lookup}
use Rattle.std.proofs.lemmas.Cmp.{nat_cmp_total}
use Rattle.tl_topology.specs.Topology.{number_of_name}
use Rattle.tl_topology.specs.Regions.{Area, put_area, without_area}
use Rattle.tl_capture.specs.Present.{recorded, put_in, without, cleared}
use Rattle.tl_beats.specs.declared.watch.Watch.{Watch}
use Rattle.tl_monitor.specs.Boxes.{BoxesData, place_at, held_at, attached_watch, attached_at, given_back_at, retuned_at, detached_at, away_at, taken_at, placed_at}
use Rattle.tl_monitor.proofs.WatchLemmas.{attached_and_back}
use Rattle.tl_monitor.specs.Places.{Place, Here, Out, held_of, away_of, watch_of_place, watch_unless_closing, place_tuned, leaving}
use Rattle.tl_monitor.specs.declared.away.Away.{Away}
use Rattle.tl_definitions.specs.Positions.{Recorded}
use Rattle.tl_definitions.specs.Watching.{retuned}
use Rattle.tl_edits.specs.Edits.{AnEdit, plain_change, add, replace, withdraw, clear_link, set_region, remove_region, attach, retune, detach}
use Rattle.tl_beats.specs.Watches.{link_of}
use Rattle.tl_edits.specs.declared.fault.EditFault.TheVariants as fault
use Rattle.tl_edits.specs.Inputs.{InputData, watch_at, was_attached, refusal, most_edits, changed, with_fragments, with_regions, with_monitor, regions_at}
use Rattle.tl_edits.specs.declared.edit.Change.{Change}
use Rattle.tl_edits.specs.declared.edit.Change.TheVariants as change
use Rattle.tl_monitor.specs.Held.{Held}
use Rattle.tl_board.proofs.EntryLemmas.{lookup_put}
use Rattle.tl_board.specs.TouchedWatches.{edited_monitor}
use Rattle.tl_desk.specs.Core.{AreAttached, AreKnown}
use Rattle.tl_desk.specs.Steps.{boxes_after, without_tally, KeepsBoxes}
use Rattle.tl_desk.specs.Tickets.{ticket_away}
use Rattle.tl_desk.proofs.BoxLemmas.{IsPlaced, nat_exact, number_self, number_apart_back, same_number, set_placed, tuned_placed, place_detached, detached_placed, attached_placed, place_here, taken_placed}

-- ---- what stands after an entry of monitors that comes

found_put : (n m : ℕ) (w : Option Watch) (monitors : List (ℕ × Option Watch)) → lookup (is_at (nat_cmp n)) (insert_entry nat_cmp monitors m w) ≡ cond (is_at (nat_cmp n) m) (Some w) (lookup (is_at (nat_cmp n)) monitors)
found_put n m w monitors = lookup_put nat_cmp nat_cmp_total nat_exact n m w monitors

pub put_here : (m : ℕ) (w : Option Watch) (monitors : List (ℕ × Option Watch)) → watch_at m (insert_entry nat_cmp monitors m w) ≡ w
put_here m w monitors = ap (λ o. option_map_or (λ x. x) o None) (found_put m m w monitors ∙ ap (λ b. cond b (Some w) (lookup (is_at (nat_cmp m)) monitors)) (number_self m))

put_other : (m n : ℕ) (w : Option Watch) (monitors : List (ℕ × Option Watch)) → (m ≡ n → ⊥) → watch_at n (insert_entry nat_cmp monitors m w) ≡ watch_at n monitors
put_other m n w monitors apart = ap (λ o. option_map_or (λ x. x) o None) (found_put n m w monitors ∙ ap (λ b. cond b (Some w) (lookup (is_at (nat_cmp n)) monitors)) (number_apart_back m n apart))

was_put : (m n : ℕ) (w : Option Watch) (monitors : List (ℕ × Option Watch)) → was_attached n monitors ≡ true → was_attached n (insert_entry nat_cmp monitors m w) ≡ true
was_put m n w monitors was = ap is_some (found_put n m w monitors) ∙ elim (is_at (nat_cmp n) m) as (λ b. is_some (cond b (Some w) (lookup (is_at (nat_cmp n)) monitors)) ≡ true) [ true ↦ refl | false ↦ was ]

pub is_put : (m : ℕ) (w : Option Watch) (monitors : List (ℕ × Option Watch)) → was_attached m (insert_entry nat_cmp monitors m w) ≡ true
is_put m w monitors = ap is_some (found_put m m w monitors ∙ ap (λ b. cond b (Some w) (lookup (is_at (nat_cmp m)) monitors)) (number_self m))

-- ---- what follows where one place is another

-- the ticket of a place
abbrev pub ticket_of : Option Place → Option ℕ
ticket_of p = option_map (λ (a : Away). a.ticket) (option_and_then away_of p)

-- The monitors are those that are attached, and as many as before are out, under the same tickets.
pub record Keeps (after : InputData) (old new : BoxesData) : Type 0 where
  pub attached : AreAttached after new
  pub known : AreKnown after new
  pub tickets : (n : ℕ) → ticket_away n new ≡ ticket_away n old

module _ (m : ℕ) (p : Option Place) (old new : BoxesData) (is : IsPlaced m p old new) where
  pub attached_by : (now after : InputData) → AreAttached now old → option_and_then watch_of_place p ≡ watch_at m after.monitors
      → ((n : ℕ) → (m ≡ n → ⊥) → watch_at n after.monitors ≡ watch_at n now.monitors) → AreAttached after new
  attached_by now after are here others n = elim (same_number m n) [
    | inl same ↦ subst (λ k. attached_watch k new ≡ watch_at k after.monitors) same (ap (λ o. option_and_then watch_of_place o) is.here ∙ here)
    | inr apart ↦ ap (λ o. option_and_then watch_of_place o) (is.others n apart) ∙ are n ∙ sym (others n apart)
  ]

  pub known_by : (now after : InputData) → AreKnown now old → ((n : ℕ) → was_attached n now.monitors ≡ true → was_attached n after.monitors ≡ true)
      → (is_some p ≡ true → (was_attached m after.monitors ≡ true) × (m < 4294967296)) → AreKnown after new
  known_by now after known more here n there = elim (same_number m n) [
    | inl same ↦ subst (λ k. (was_attached k after.monitors ≡ true) × (k < 4294967296)) same (here (sym (ap is_some is.here) ∙ ap (λ k. is_some (place_at k new.slots)) same ∙ there))
    | inr apart ↦ (let was = known n (sym (ap is_some (is.others n apart)) ∙ there) in (more n was.0, was.1))
  ]

  pub tickets_by : ticket_of p ≡ ticket_away m old → (n : ℕ) → ticket_away n new ≡ ticket_away n old
  tickets_by here n = elim (same_number m n) [
    | inl same ↦ subst (λ k. ticket_away k new ≡ ticket_away k old) same (ap ticket_of is.here ∙ here)
    | inr apart ↦ ap ticket_of (is.others n apart)
  ]

  pub ticket_here : ticket_away m new ≡ ticket_of p
  ticket_here = ap ticket_of is.here

  pub ticket_other : (n : ℕ) → (m ≡ n → ⊥) → ticket_away n new ≡ ticket_away n old
  ticket_other n apart = ap ticket_of (is.others n apart)

-- ---- one monitor

-- A monitor comes.
pub attached_more : (now : InputData) (old new : BoxesData) (m : ℕ) (h : Held) (w : Watch) → h.watch ≡ w → m < 4294967296 → place_at m old.slots ≡ None → new ≡ attached_at m h old → AreAttached now old → AreKnown now old
    → Keeps (changed now (attach m w)) old new
attached_more now old new m h w same few none comes are known = record {
  attached = attached_by m (Some (Here h)) old new is now after are (ap Some same ∙ sym (put_here m (Some w) now.monitors)) (λ n apart. put_other m n (Some w) now.monitors apart);
  known = known_by m (Some (Here h)) old new is now after known (λ n was. was_put m n (Some w) now.monitors was) (λ _. (is_put m (Some w) now.monitors, few));
  tickets = tickets_by m (Some (Here h)) old new is (sym (ap ticket_of none));
}
  where
    after : InputData
    after = changed now (attach m w)

    is : IsPlaced m (Some (Here h)) old new
    is = attached_placed m h old new comes

-- A monitor goes, or is to go.
gone : (now : InputData) (old : BoxesData) (m edit : ℕ) → IsStrictlySortedBy nat_cmp (keys_of old.slots) → AreAttached now old → AreKnown now old → Keeps (with_monitor now m None) old (detached_at m edit old)
gone now old m edit order are known = record {
  attached = attached_by m p old (detached_at m edit old) is now (with_monitor now m None) are (unwatched (place_at m old.slots) ∙ sym (put_here m None now.monitors)) (λ n apart. put_other m n None now.monitors apart);
  known = known_by m p old (detached_at m edit old) is now (with_monitor now m None) known (λ n was. was_put m n None now.monitors was)
      (λ some. (let was = known m (there (place_at m old.slots) some) in (was_put m m None now.monitors was.0, was.1)));
  tickets = tickets_by m p old (detached_at m edit old) is (ticketed (place_at m old.slots));
}
  where
    p : Option Place
    p = place_detached edit (place_at m old.slots)

    is : IsPlaced m p old (detached_at m edit old)
    is = detached_placed m edit old (detached_at m edit old) order refl

    unwatched : (q : Option Place) → option_and_then watch_of_place (place_detached edit q) ≡ None
    unwatched None = refl
    unwatched (Some (Here h)) = refl
    unwatched (Some (Out a)) = refl

    there : (q : Option Place) → is_some (place_detached edit q) ≡ true → is_some q ≡ true
    there None h = h
    there (Some q) h = refl

    ticketed : (q : Option Place) → ticket_of (place_detached edit q) ≡ ticket_of q
    ticketed None = refl
    ticketed (Some (Here h)) = refl
    ticketed (Some (Out a)) = refl

-- A monitor has another limit, or is to have it.
tuned : (now : InputData) (old : BoxesData) (m limit : ℕ) → AreAttached now old → AreKnown now old → Keeps (with_monitor now m (option_map (λ w. retuned w limit) (watch_at m now.monitors))) old (retuned_at m limit old)
tuned now old m limit are known = record {
  attached = attached_by m p old (retuned_at m limit old) is now after are
      (watched (place_at m old.slots) ∙ ap (option_map (λ w. retuned w limit)) (are m) ∙ sym (put_here m w now.monitors)) (λ n apart. put_other m n w now.monitors apart);
  known = known_by m p old (retuned_at m limit old) is now after known (λ n was. was_put m n w now.monitors was)
      (λ some. (let was = known m (there (place_at m old.slots) some) in (was_put m m w now.monitors was.0, was.1)));
  tickets = tickets_by m p old (retuned_at m limit old) is (ticketed (place_at m old.slots));
}
  where
    w : Option Watch
    w = option_map (λ w. retuned w limit) (watch_at m now.monitors)

    after : InputData
    after = with_monitor now m w

    p : Option Place
    p = option_map (place_tuned limit) (place_at m old.slots)

    is : IsPlaced m p old (retuned_at m limit old)
    is = tuned_placed m limit old (retuned_at m limit old) refl

    watched : (q : Option Place) → option_and_then watch_of_place (option_map (place_tuned limit) q) ≡ option_map (λ w. retuned w limit) (option_and_then watch_of_place q)
    watched None = refl
    watched (Some (Here h)) = refl
    watched (Some (Out a)) = elim a.closing as (λ c. watch_unless_closing (retuned a.watch limit) c ≡ option_map (λ w. retuned w limit) (watch_unless_closing a.watch c)) [ None ↦ refl | Some e ↦ refl ]

    there : (q : Option Place) → is_some (option_map (place_tuned limit) q) ≡ true → is_some q ≡ true
    there None h = h
    there (Some q) h = refl

    ticketed : (q : Option Place) → ticket_of (option_map (place_tuned limit) q) ≡ ticket_of q
    ticketed None = refl
    ticketed (Some (Here h)) = refl
    ticketed (Some (Out a)) = refl

-- ---- all changes

kept_by_fragments : (now : InputData) (name : List ℕ) (edit : ℕ → List Recorded → List Recorded) → (with_fragments now name edit).monitors ≡ now.monitors
kept_by_fragments now name edit = elim (number_of_name now.topo.links name) as (λ o. (option_map_or (λ link. record now { fragments = edit link now.fragments }) o now).monitors ≡ now.monitors) [ None ↦ refl | Some n ↦ refl ]

kept_by_regions : (now : InputData) (name : List ℕ) (edit : List (ℕ × Area) → List (ℕ × Area)) → (with_regions now name edit).monitors ≡ now.monitors
kept_by_regions now name edit = elim (number_of_name now.topo.managers name) as (λ o. (option_map_or (λ n. record now { regions = slice_set now.regions n (edit (regions_at n now.regions)) }) o now).monitors ≡ now.monitors) [ None ↦ refl | Some n ↦ refl ]

still : (now after : InputData) (old : BoxesData) → after.monitors ≡ now.monitors → AreAttached now old → AreKnown now old → Keeps after old old
still now after old same are known = record {
  attached = λ n. are n ∙ ap (watch_at n) (sym same);
  known = λ n there. (let was = known n there in (ap (was_attached n) same ∙ was.0, was.1));
  tickets = λ n. refl;
}

-- Who was attached was so after a change.
pub was_more : (now : InputData) (c : Change) (n : ℕ) → was_attached n now.monitors ≡ true → was_attached n (changed now (plain_change c)).monitors ≡ true
was_more now (change.Add f) n was = ap (was_attached n) (kept_by_fragments now (arc_value f).link (λ link fs. put_in (recorded link (arc_value f)) fs)) ∙ was
was_more now (change.Replace f) n was = ap (was_attached n) (kept_by_fragments now (arc_value f).link (λ link fs. put_in (recorded link (arc_value f)) (without link (arc_value f).number fs))) ∙ was
was_more now (change.Withdraw name k) n was = ap (was_attached n) (kept_by_fragments now name (λ link fs. without link k fs)) ∙ was
was_more now (change.ClearLink name) n was = ap (was_attached n) (kept_by_fragments now name cleared) ∙ was
was_more now (change.SetRegion name k area) n was = ap (was_attached n) (kept_by_regions now name (put_area k area)) ∙ was
was_more now (change.RemoveRegion name k) n was = ap (was_attached n) (kept_by_regions now name (without_area k)) ∙ was
was_more now (change.Retune m limit) n was = was_put m n (option_map (λ w. retuned w limit) (watch_at m now.monitors)) now.monitors was
was_more now (change.Detach m) n was = was_put m n None now.monitors was

pub was_attached_more : (now : InputData) (m : ℕ) (w : Watch) (n : ℕ) → was_attached n now.monitors ≡ true → was_attached n (changed now (attach m w)).monitors ≡ true
was_attached_more now m w n was = was_put m n (Some w) now.monitors was

-- One that was attached then was so before, or the edit is of it.
put_back : (m n : ℕ) (w : Option Watch) (monitors : List (ℕ × Option Watch)) → was_attached n (insert_entry nat_cmp monitors m w) ≡ true → (was_attached n monitors ≡ true) ⊎ (Some m ≡ Some n)
put_back m n w monitors was = elim (same_number m n) as (λ _. (was_attached n monitors ≡ true) ⊎ (Some m ≡ Some n)) [
  | inl same ↦ inr (ap Some same)
  | inr apart ↦ inl (sym (ap is_some (found_put n m w monitors ∙ ap (λ b. cond b (Some w) (lookup (is_at (nat_cmp n)) monitors)) (number_apart_back m n apart))) ∙ was)
]

pub was_before : (now : InputData) (e : AnEdit) (n : ℕ) → was_attached n (changed now e).monitors ≡ true → (was_attached n now.monitors ≡ true) ⊎ (edited_monitor e ≡ Some n)
was_before now (add f) n was = inl (sym (ap (was_attached n) (kept_by_fragments now f.link (λ link fs. put_in (recorded link f) fs))) ∙ was)
was_before now (replace f) n was = inl (sym (ap (was_attached n) (kept_by_fragments now f.link (λ link fs. put_in (recorded link f) (without link f.number fs)))) ∙ was)
was_before now (withdraw name k) n was = inl (sym (ap (was_attached n) (kept_by_fragments now name (λ link fs. without link k fs))) ∙ was)
was_before now (clear_link name) n was = inl (sym (ap (was_attached n) (kept_by_fragments now name cleared)) ∙ was)
was_before now (set_region name k area) n was = inl (sym (ap (was_attached n) (kept_by_regions now name (put_area k area))) ∙ was)
was_before now (remove_region name k) n was = inl (sym (ap (was_attached n) (kept_by_regions now name (without_area k))) ∙ was)
was_before now (attach m w) n was = put_back m n (Some w) now.monitors was
was_before now (retune m limit) n was = put_back m n (option_map (λ w. retuned w limit) (watch_at m now.monitors)) now.monitors was
was_before now (detach m) n was = put_back m n None now.monitors was

-- After a change the monitors are those that are attached, where it reached them.
pub attached_after : (now : InputData) (c : Change) (number : ℕ) (old : BoxesData) → IsStrictlySortedBy nat_cmp (keys_of old.slots) → AreAttached now old → AreKnown now old
    → Keeps (changed now (plain_change c)) old (boxes_after (plain_change c) number old)
attached_after now (change.Add f) number old order are known = still now (changed now (plain_change (change.Add f))) old (kept_by_fragments now (arc_value f).link (λ link fs. put_in (recorded link (arc_value f)) fs)) are known
attached_after now (change.Replace f) number old order are known = still now (changed now (plain_change (change.Replace f))) old (kept_by_fragments now (arc_value f).link (λ link fs. put_in (recorded link (arc_value f)) (without link (arc_value f).number fs))) are known
attached_after now (change.Withdraw name n) number old order are known = still now (changed now (plain_change (change.Withdraw name n))) old (kept_by_fragments now name (λ link fs. without link n fs)) are known
attached_after now (change.ClearLink name) number old order are known = still now (changed now (plain_change (change.ClearLink name))) old (kept_by_fragments now name cleared) are known
attached_after now (change.SetRegion name n area) number old order are known = still now (changed now (plain_change (change.SetRegion name n area))) old (kept_by_regions now name (put_area n area)) are known
attached_after now (change.RemoveRegion name n) number old order are known = still now (changed now (plain_change (change.RemoveRegion name n))) old (kept_by_regions now name (without_area n)) are known
attached_after now (change.Retune m limit) number old order are known = tuned now old m limit are known
attached_after now (change.Detach m) number old order are known = gone now old m number order are known

-- ---- a monitor that comes and goes again

-- The one that came is here.
pub put_found : (old put : BoxesData) (m : ℕ) (h : Held) → put ≡ attached_at m h old → held_at m put.slots ≡ Some h
put_found old put m h comes = ap (λ o. option_and_then held_of o) (attached_placed m h old put comes).here

-- A number that nothing refuses to attach was never a monitor's.
pub attach_fresh : (edits : ℕ) (now : InputData) (m : ℕ) (w : Watch) → refusal edits now (attach m w) ≡ None → was_attached m now.monitors ≡ false
attach_fresh edits now m w none = unknown (lookup (is_at (nat_cmp m)) now.monitors) refl (number_of_name now.topo.links (link_of w)) none
  where
    unknown : (found : Option (Option Watch)) → lookup (is_at (nat_cmp m)) now.monitors ≡ found → (link : Option ℕ)
        → option_map_or (λ why. Some why) (option_map_or (λ link. if is_some found then Some fault.MonitorExists else None) link (Some fault.UnknownLink)) (if nat_le most_edits edits then Some fault.LogFull else None) ≡ None
        → was_attached m now.monitors ≡ false
    unknown None is link h = ap is_some is
    unknown (Some o) is None h = cc
    unknown (Some o) is (Some link) h = cc

-- So it has no place.
pub not_held : (edits : ℕ) (now : InputData) (old : BoxesData) (m : ℕ) (w : Watch) → AreKnown now old → refusal edits now (attach m w) ≡ None → place_at m old.slots ≡ None
not_held edits now old m w known none = go (place_at m old.slots) refl
  where
    go : (p : Option Place) → place_at m old.slots ≡ p → place_at m old.slots ≡ None
    go None at = at
    go (Some p) at =
        let was : was_attached m now.monitors ≡ true = (known m (ap is_some at)).0 in
        let not : was_attached m now.monitors ≡ false = attach_fresh edits now m w none in
        absurd (let never : true ≡ false = sym was ∙ not in cc)

-- The monitors are as they were where one that came is given back.
pub given_back : (old put taken : BoxesData) (m : ℕ) (h : Held) → place_at m old.slots ≡ None → put ≡ attached_at m h old → taken ≡ given_back_at m put → taken ≡ old
given_back old put taken m h none comes goes = goes ∙ ap (given_back_at m) comes ∙ attached_and_back old m h none

-- ---- monitors that keep all but their tallies

pub kept_none : (old : BoxesData) → KeepsBoxes old old
kept_none old = record { ended = refl; places = λ number. refl }

pub kept_both : (one two three : BoxesData) → KeepsBoxes one two → KeepsBoxes two three → KeepsBoxes one three
kept_both one two three first second = record { ended = second.ended ∙ first.ended; places = λ number. second.places number ∙ first.places number }

-- One of them was used.
pub kept_one : (old new : BoxesData) (m : ℕ) (h g : Held) → place_at m old.slots ≡ Some (Here h) → g.watch ≡ h.watch → g.closed_at ≡ h.closed_at → new.ended ≡ old.ended → IsPlaced m (Some (Here g)) old new → KeepsBoxes old new
kept_one old new m h g at watch closed ended is = record {
  ended = ended;
  places = λ n. elim (same_number m n) [
    | inl here ↦ subst (λ k. option_map without_tally (place_at k new.slots) ≡ option_map without_tally (place_at k old.slots)) here (ap (option_map without_tally) is.here ∙ ap (λ x. Some (Here x)) same ∙ sym (ap (option_map without_tally) at))
    | inr apart ↦ ap (option_map without_tally) (is.others n apart)
  ];
}
  where
    same : record g { tally = 0 } ≡ record h { tally = 0 }
    same = ap (λ w. record { watch = w; tally = 0; closed_at = g.closed_at }) watch ∙ ap (λ e. record { watch = h.watch; tally = 0; closed_at = e }) closed

-- They are attached, known and out as before.
pub still_attached : (now : InputData) (old new : BoxesData) → KeepsBoxes old new → AreAttached now old → AreKnown now old → Keeps now old new
still_attached now old new keeps are known = record {
  attached = λ n. sym (watched (place_at n new.slots)) ∙ ap (λ o. option_and_then watch_of_place o) (keeps.places n) ∙ watched (place_at n old.slots) ∙ are n;
  known = λ n there. known n (sym (some (place_at n old.slots)) ∙ sym (ap is_some (keeps.places n)) ∙ some (place_at n new.slots) ∙ there);
  tickets = λ n. sym (ticketed (place_at n new.slots)) ∙ ap ticket_of (keeps.places n) ∙ ticketed (place_at n old.slots);
}
  where
    watched : (p : Option Place) → option_and_then watch_of_place (option_map without_tally p) ≡ option_and_then watch_of_place p
    watched None = refl
    watched (Some (Here h)) = refl
    watched (Some (Out a)) = refl

    some : (p : Option Place) → is_some (option_map without_tally p) ≡ is_some p
    some None = refl
    some (Some p) = refl

    ticketed : (p : Option Place) → ticket_of (option_map without_tally p) ≡ ticket_of p
    ticketed None = refl
    ticketed (Some (Here h)) = refl
    ticketed (Some (Out a)) = refl

-- A monitor that is attached is here or out.
pub here_or_out : (now : InputData) (old : BoxesData) (m : ℕ) → AreAttached now old → is_some (watch_at m now.monitors) ≡ true → (is_some (away_at m old.slots) ≡ true → ⊥) → (h : Held) × (place_at m old.slots ≡ Some (Here h)) × (watch_at m now.monitors ≡ Some h.watch)
here_or_out now old m are some not = go (place_at m old.slots) refl
  where
    go : (p : Option Place) → place_at m old.slots ≡ p → (h : Held) × (place_at m old.slots ≡ Some (Here h)) × (watch_at m now.monitors ≡ Some h.watch)
    go None at = absurd (let never : false ≡ true = sym (ap (λ o. is_some (option_and_then watch_of_place o)) at) ∙ ap is_some (are m) ∙ some in cc)
    go (Some (Here h)) at = (h, at, sym (are m) ∙ ap (λ o. option_and_then watch_of_place o) at)
    go (Some (Out a)) at = absurd (not (ap (λ o. is_some (option_and_then away_of o)) at))

-- ---- a monitor that is lent for a check, and put back

module _ (m : ℕ) (h g : Held) (old mid : BoxesData) (here : held_at m old.slots ≡ Some h) (goes : mid ≡ taken_at m 0 old) (watch : g.watch ≡ h.watch) where
  lent : IsPlaced m (Some (Out (leaving 0 h))) old mid
  lent = taken_placed m 0 h old mid here goes

  pub lent_place : away_at m mid.slots ≡ Some (leaving 0 g)
  lent_place = ap (λ o. option_and_then away_of o) lent.here ∙ ap (λ w. Some (record { ticket = 0; taken = w; watch = w; closing = None })) (sym watch)

  pub lent_back : (new : BoxesData) → new ≡ placed_at m (Here g) mid → IsPlaced m (Some (Here g)) old new
  lent_back new comes = record { here = put.here; others = λ n apart. put.others n apart ∙ lent.others n apart }
    where
      put : IsPlaced m (Some (Here g)) mid new
      put = set_placed m (Out (leaving 0 h)) (Here g) mid new lent.here comes

  pub lent_kept : (new : BoxesData) → g.closed_at ≡ h.closed_at → new ≡ placed_at m (Here g) mid → KeepsBoxes old new
  lent_kept new closed comes =
      kept_one old new m h g (place_here (place_at m old.slots) h here) watch closed
      (ap (λ (b : BoxesData). b.ended) comes ∙ ap (λ (b : BoxesData). b.ended) goes ∙ ap (λ o. (option_map_or (λ x. placed_at m (Out (leaving 0 x)) old) o old).ended) here)
      (lent_back new comes)

-- Those that are out are out as before.
pub still_out : (old new : BoxesData) → KeepsBoxes old new → (n : ℕ) → is_some (away_at n new.slots) ≡ is_some (away_at n old.slots)
still_out old new keeps n = sym (out (place_at n new.slots)) ∙ ap (λ o. is_some (option_and_then away_of o)) (keeps.places n) ∙ out (place_at n old.slots)
  where
    out : (p : Option Place) → is_some (option_and_then away_of (option_map without_tally p)) ≡ is_some (option_and_then away_of p)
    out None = refl
    out (Some (Here h)) = refl
    out (Some (Out a)) = refl
