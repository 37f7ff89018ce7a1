-- What the monitors told that ended, after one step more.
use Rattle.std.proofs.Common.{◌≡◌, ℕ, zero, suc, ◌+◌, ◌≤◌, ◌⊎◌, inl, inr, true, false, Bool, List, [], ◌∷◌, ◌++◌, Option, Some, None, length, refl, sym, ap, subst, ◌∙◌, arith}
use Rattle.std.specs.Prelude.{slice_get, is_some, if◌then◌else◌, nat_le}
use Rattle.std.specs.Option.{option_map, option_map_or, option_and_then}
use Rattle.std.specs.Ordering.{nat_cmp}
use Rattle.std.specs.List.Sorted.{IsStrictlySortedBy}
use Rattle.std.specs.Map.{keys_of}
use Rattle.std.proofs.Math.Seq.{take-length}
use Rattle.std.proofs.lemmas.List.{take-append-le, length-append}
use Rattle.tl_beats.specs.declared.watch.Watch.{Watch}
use Rattle.tl_monitor.specs.Boxes.{BoxesData, IsBoxes, place_at, held_at, away_at, placed_at, attached_at, retuned_at, detached_from, detached_at, taken_at, ended_at, back_with, brought_back, told}
use Rattle.tl_monitor.specs.Places.{Place, Here, Out, away_of, watch_of_place, watch_unless_closing, limit_of, tuned, place_tuned, leaving}
use Rattle.tl_monitor.specs.declared.away.Away.{Away}
use Rattle.tl_monitor.proofs.KeptLemmas.{found_kept}
use Rattle.tl_definitions.specs.Watching.{retuned}
use Rattle.tl_edits.specs.Edits.{AnEdit, plain_change, attach, retune, detach}
use Rattle.tl_edits.specs.Inputs.{InputData, watch_at, was_attached, refusal, limit_refusal, most_edits, changed}
use Rattle.tl_edits.specs.Log.{LogData, inputs_after}
use Rattle.tl_edits.specs.declared.edit.Change.{Change}
use Rattle.tl_edits.specs.declared.edit.Change.TheVariants as change
use Rattle.tl_edits.specs.declared.fault.EditFault.TheVariants as fault
use Rattle.tl_monitor.specs.Held.{Held}
use Rattle.tl_monitor.specs.declared.monitor.Settlement.{Settlement}
use Rattle.tl_board.specs.TouchedWatches.{edited_monitor}
use Rattle.tl_desk.specs.Core.{AreAttached, log_of}
use Rattle.tl_desk.specs.Ends.{IsEndOf, HasTold, HaveEnded, IsAccountedFor}
use Rattle.tl_desk.specs.Laws.{MonitorsAreAccountedFor}
use Rattle.tl_desk.specs.Steps.{KeepsBoxes, boxes_after, without_tally}
use Rattle.tl_desk.specs.Tickets.{left_by}
use Rattle.tl_desk.proofs.AttachedLemmas.{put_here, was_more, was_before, is_put, attach_fresh}
use Rattle.tl_desk.proofs.BoxLemmas.{IsPlaced, same_number, tuned_placed, place_detached, detached_placed, attached_placed, place_here, place_out, taken_placed, place_back, back_placed}
use Rattle.tl_desk.proofs.TicketLemmas.{clash, one_value}

-- ---- more edits

-- What the first so many edits leave stays.
left_more : (log : LogData) (e : AnEdit) (k : ℕ) → k ≤ length log.edits → left_by (record log { edits = log.edits ++ e ∷ [] }) k ≡ left_by log k
left_more log e k within = ap (inputs_after log.topo) (take-append-le k log.edits (e ∷ []) within)

-- After one edit more a monitor's end is what it was.
pub end_more : (log new : LogData) (e : AnEdit) → new ≡ record log { edits = log.edits ++ e ∷ [] } → (n : ℕ) (w : Watch) (edit : ℕ) → IsEndOf log n w edit → IsEndOf new n w edit
end_more log new e is n w edit end = subst (λ l. IsEndOf l n w edit) (sym is) (record {
  before = end.before;
  next = end.next;
  within = later;
  had = ap (λ (i : InputData). watch_at n i.monitors) (left_more log e end.before earlier) ∙ end.had;
  none = ap (λ (i : InputData). watch_at n i.monitors) (left_more log e edit end.within) ∙ end.none;
})
  where
    more : length (log.edits ++ e ∷ []) ≡ length log.edits + 1
    more = length-append log.edits (e ∷ [])

    later : edit ≤ length (log.edits ++ e ∷ [])
    later = let within : edit ≤ length log.edits = end.within in omega (arith, within, more)

    earlier : end.before ≤ length log.edits
    earlier = let within : edit ≤ length log.edits = end.within in let next : edit ≡ end.before + 1 = end.next in omega (arith, within, next)

-- The last edit detached the monitor.
end_now : (log new : LogData) (e : AnEdit) (m : ℕ) (w : Watch) → new ≡ record log { edits = log.edits ++ e ∷ [] } → watch_at m (inputs_after log.topo log.edits).monitors ≡ Some w
    → watch_at m (inputs_after new.topo new.edits).monitors ≡ None → IsEndOf new m w (length new.edits)
end_now log new e m w is had none = record {
  before = length log.edits;
  next = ap (λ (l : LogData). length l.edits) is ∙ length-append log.edits (e ∷ []);
  within = (let within : length new.edits ≤ length new.edits = omega arith in within);
  had = ap (λ (l : LogData). watch_at m (left_by l (length log.edits)).monitors) is ∙ ap (λ (i : InputData). watch_at m i.monitors) (left_more log e (length log.edits) (omega arith))
      ∙ ap (λ es. watch_at m (inputs_after log.topo es).monitors) (take-length log.edits) ∙ had;
  none = ap (λ es. watch_at m (inputs_after new.topo es).monitors) (take-length new.edits) ∙ none;
}

-- ---- one who told more

-- What is found after one more is the last, or stood there before.
found_last : (es : List (ℕ × Settlement)) (x : ℕ × Settlement) (at : ℕ) (e : ℕ × Settlement) → slice_get (es ++ x ∷ []) at ≡ Some e → ((at ≡ length es) × (x ≡ e)) ⊎ (slice_get es at ≡ Some e)
found_last [] x zero e is = inl (refl, one_value (Some x) x e refl is)
found_last [] x (suc at) e is = absurd (let never : None ≡ Some e = is in cc)
found_last (y ∷ es) x zero e is = inr is
found_last (y ∷ es) x (suc at) e is = elim (found_last es x at e is) as (λ _. ((suc at ≡ suc (length es)) × (x ≡ e)) ⊎ (slice_get es at ≡ Some e)) [ inl h ↦ inl (ap suc h.0, h.1) | inr h ↦ inr h ]

last_of : (es : List (ℕ × Settlement)) (x : ℕ × Settlement) → slice_get (es ++ x ∷ []) (length es) ≡ Some x
last_of [] x = refl
last_of (y ∷ es) x = last_of es x

kept_in : (es : List (ℕ × Settlement)) (x : ℕ × Settlement) (at : ℕ) (e : ℕ × Settlement) → slice_get es at ≡ Some e → slice_get (es ++ x ∷ []) at ≡ Some e
kept_in [] x at e is = absurd (let never : None ≡ Some e = is in cc)
kept_in (y ∷ es) x zero e is = is
kept_in (y ∷ es) x (suc at) e is = kept_in es x at e is

-- A monitor is here or out, or has told.
abbrev IsKnown : BoxesData → ℕ → Type 0
IsKnown boxes n = (is_some (place_at n boxes.slots) ≡ true) ⊎ HasTold boxes n

nobody : (m n : ℕ) → None ≡ Some n → m ≡ n
nobody m n is = absurd (let never : None ≡ Some n = is in cc)

-- What is said of each that is out and was detached.
abbrev pub AreClosing : LogData → BoxesData → Type 0
AreClosing log boxes = (n edit : ℕ) (away : Away) → away_at n boxes.slots ≡ Some away → away.closing ≡ Some edit → IsEndOf log n away.watch edit

-- After the edits of the new log ends are what they were, and who was attached was so; but for one monitor no other was.
pub record Goes (log new : LogData) (more : Option ℕ) : Type 0 where
  pub was : (n : ℕ) → was_attached n (inputs_after log.topo log.edits).monitors ≡ true → was_attached n (inputs_after new.topo new.edits).monitors ≡ true
  pub ends : (n : ℕ) (w : Watch) (edit : ℕ) → IsEndOf log n w edit → IsEndOf new n w edit
  pub back : (n : ℕ) → was_attached n (inputs_after new.topo new.edits).monitors ≡ true → (was_attached n (inputs_after log.topo log.edits).monitors ≡ true) ⊎ (more ≡ Some n)

pub stays : (log new : LogData) → new ≡ log → Goes log new None
stays log new same = record {
  was = λ n was. subst (λ (l : LogData). was_attached n (inputs_after l.topo l.edits).monitors ≡ true) (sym same) was;
  ends = λ n w edit end. subst (λ (l : LogData). IsEndOf l n w edit) (sym same) end;
  back = λ n was. inl (subst (λ (l : LogData). was_attached n (inputs_after l.topo l.edits).monitors ≡ true) same was);
}

module _ (log new : LogData) (more : Option ℕ) (old boxes : BoxesData) (goes : Goes log new more) (h : HaveEnded log old) where
  -- Nobody has told more.
  ends_same : boxes.ended ≡ old.ended → ((n : ℕ) → was_attached n (inputs_after log.topo log.edits).monitors ≡ true → place_at n old.slots ≡ None → place_at n boxes.slots ≡ None)
      → ((n : ℕ) → is_some (place_at n old.slots) ≡ true → is_some (place_at n boxes.slots) ≡ true) → ((n : ℕ) → more ≡ Some n → is_some (place_at n boxes.slots) ≡ true) → AreClosing new boxes → HaveEnded new boxes
  ends_same same none some it closing = record {
    gone = λ at e is. none e.0 (h.known at e (found at e is)) (h.gone at e (found at e is));
    known = λ at e is. goes.was e.0 (h.known at e (found at e is));
    once = λ at other e f is has one. h.once at other e f (found at e is) (found other f has) one;
    told = λ at e is. goes.ends e.0 e.1.watch e.1.closed_at (h.told at e (found at e is));
    closing = closing;
    all = λ n was. known_from n (goes.back n was);
  }
    where
      found : (at : ℕ) (e : ℕ × Settlement) → slice_get boxes.ended at ≡ Some e → slice_get old.ended at ≡ Some e
      found at e is = sym (ap (λ es. slice_get es at) same) ∙ is

      known_still : (n : ℕ) → IsKnown old n → IsKnown boxes n
      known_still n (inl there) = inl (some n there)
      known_still n (inr told) = inr (told.0, told.1, ap (λ es. slice_get es told.0) same ∙ told.2, told.3)

      known_from : (n : ℕ) → (was_attached n (inputs_after log.topo log.edits).monitors ≡ true) ⊎ (more ≡ Some n) → IsKnown boxes n
      known_from n (inl was) = known_still n (h.all n was)
      known_from n (inr named) = inl (it n named)

  -- One has, whose place is gone.
  ends_more : (m : ℕ) (p : Place) (s : Settlement) → boxes.ended ≡ old.ended ++ (m, s) ∷ [] → place_at m old.slots ≡ Some p → ((n : ℕ) → place_at n old.slots ≡ None → place_at n boxes.slots ≡ None) → IsPlaced m None old boxes
      → ((n : ℕ) → more ≡ Some n → m ≡ n) → was_attached m (inputs_after new.topo new.edits).monitors ≡ true → IsEndOf new m s.watch s.closed_at → AreClosing new boxes → HaveEnded new boxes
  ends_more m p s told_more place none gone named was end closing = record {
    gone = λ at e is. elim (found at e is) [ inl k ↦ subst (λ (x : ℕ × Settlement). place_at x.0 boxes.slots ≡ None) k.1 gone.here | inr k ↦ none e.0 (h.gone at e k) ];
    known = λ at e is. elim (found at e is) [ inl k ↦ subst (λ (x : ℕ × Settlement). was_attached x.0 (inputs_after new.topo new.edits).monitors ≡ true) k.1 was | inr k ↦ goes.was e.0 (h.known at e k) ];
    once = λ at other e f is has one. both at other e f (found at e is) (found other f has) one;
    told = λ at e is. elim (found at e is) [ inl k ↦ subst (λ (x : ℕ × Settlement). IsEndOf new x.0 x.1.watch x.1.closed_at) k.1 end | inr k ↦ goes.ends e.0 e.1.watch e.1.closed_at (h.told at e k) ];
    closing = closing;
    all = λ n was. known_from n (goes.back n was);
  }
    where
      found : (at : ℕ) (e : ℕ × Settlement) → slice_get boxes.ended at ≡ Some e → ((at ≡ length old.ended) × ((m, s) ≡ e)) ⊎ (slice_get old.ended at ≡ Some e)
      found at e is = found_last old.ended (m, s) at e (sym (ap (λ es. slice_get es at) told_more) ∙ is)

      last : HasTold boxes m
      last = (length old.ended, (m, s), ap (λ es. slice_get es (length old.ended)) told_more ∙ last_of old.ended (m, s), refl)

      known_still : (n : ℕ) → IsKnown old n → (m ≡ n) ⊎ (m ≡ n → ⊥) → IsKnown boxes n
      known_still n (inl there) (inl same) = inr (subst (HasTold boxes) same last)
      known_still n (inl there) (inr apart) = inl (ap is_some (gone.others n apart) ∙ there)
      known_still n (inr told) either = inr (told.0, told.1, ap (λ es. slice_get es told.0) told_more ∙ kept_in old.ended (m, s) told.0 told.1 told.2, told.3)

      known_from : (n : ℕ) → (was_attached n (inputs_after log.topo log.edits).monitors ≡ true) ⊎ (more ≡ Some n) → IsKnown boxes n
      known_from n (inl was) = known_still n (h.all n was) (same_number m n)
      known_from n (inr it) = inr (subst (HasTold boxes) (named n it) last)

      other : (at : ℕ) (e : ℕ × Settlement) → slice_get old.ended at ≡ Some e → m ≡ e.0 → ⊥
      other at e is same = clash (place_at m old.slots) p (ap (λ n. place_at n old.slots) same ∙ h.gone at e is) place

      both : (at there : ℕ) (e f : ℕ × Settlement) → ((at ≡ length old.ended) × ((m, s) ≡ e)) ⊎ (slice_get old.ended at ≡ Some e) → ((there ≡ length old.ended) × ((m, s) ≡ f)) ⊎ (slice_get old.ended there ≡ Some f) → e.0 ≡ f.0 → at ≡ there
      both at there e f (inl j) (inl k) one = j.0 ∙ sym k.0
      both at there e f (inl j) (inr k) one = absurd (other there f k (ap (λ (x : ℕ × Settlement). x.0) j.1 ∙ one))
      both at there e f (inr j) (inl k) one = absurd (other at e j (ap (λ (x : ℕ × Settlement). x.0) k.1 ∙ sym one))
      both at there e f (inr j) (inr k) one = h.once at there e f j k one

  -- One place is another.
  module _ (m : ℕ) (p : Option Place) (is : IsPlaced m p old boxes) where
    gone_by : (place_at m old.slots ≡ None → p ≡ None) → (n : ℕ) → place_at n old.slots ≡ None → place_at n boxes.slots ≡ None
    gone_by nowhere n none = elim (same_number m n) [
      | inl same ↦ ap (λ k. place_at k boxes.slots) (sym same) ∙ is.here ∙ nowhere (ap (λ k. place_at k old.slots) same ∙ none)
      | inr apart ↦ is.others n apart ∙ none
    ]

    closing_by : ((edit : ℕ) (away : Away) → option_and_then away_of p ≡ Some away → away.closing ≡ Some edit → IsEndOf new m away.watch edit) → AreClosing new boxes
    closing_by here n edit away out closes = elim (same_number m n) [
      | inl same ↦ subst (λ k. IsEndOf new k away.watch edit) same (here edit away (sym (ap (option_and_then away_of) is.here) ∙ ap (λ k. away_at k boxes.slots) same ∙ out) closes)
      | inr apart ↦ goes.ends n away.watch edit (h.closing n edit away (sym (ap (option_and_then away_of) (is.others n apart)) ∙ out) closes)
    ]

    there_by : is_some p ≡ true → (n : ℕ) → is_some (place_at n old.slots) ≡ true → is_some (place_at n boxes.slots) ≡ true
    there_by some n there = elim (same_number m n) [
      | inl same ↦ ap (λ k. is_some (place_at k boxes.slots)) (sym same) ∙ ap is_some is.here ∙ some
      | inr apart ↦ ap is_some (is.others n apart) ∙ there
    ]

    -- Nobody is out there who was detached.
    placed_ends : boxes.ended ≡ old.ended → (place_at m old.slots ≡ None → p ≡ None) → is_some p ≡ true → ((n : ℕ) → more ≡ Some n → m ≡ n) → ((edit : ℕ) (away : Away) → option_and_then away_of p ≡ Some away → away.closing ≡ Some edit → IsEndOf new m away.watch edit) → HaveEnded new boxes
    placed_ends same nowhere some named here = ends_same same (λ n was none. gone_by nowhere n none) (there_by some)
        (λ n it. ap (λ k. is_some (place_at k boxes.slots)) (sym (named n it)) ∙ ap is_some is.here ∙ some) (closing_by here)

-- ---- each call

-- A monitor has another limit, or is to have it: it was not detached.
module _ (log new : LogData) (old : BoxesData) (m : ℕ) (goes : Goes log new (Some m)) (h : HaveEnded log old) (are : AreAttached (inputs_after log.topo log.edits) old) where
  named : (n : ℕ) → Some m ≡ Some n → m ≡ n
  named n same = one_value (Some m) m n refl same

  watched : (q : Option Place) → place_at m old.slots ≡ q → option_and_then watch_of_place q ≡ watch_at m (inputs_after log.topo log.edits).monitors
  watched q at = sym (ap (option_and_then watch_of_place) at) ∙ are m

  pub ends_tuned : (limit : ℕ) → is_some (watch_at m (inputs_after log.topo log.edits).monitors) ≡ true → HaveEnded new (retuned_at m limit old)
  ends_tuned limit there =
      placed_ends log new (Some m) old (retuned_at m limit old) goes h m (option_map (place_tuned limit) (place_at m old.slots)) (tuned_placed m limit old (retuned_at m limit old) refl)
      (elim (place_at m old.slots) as (λ o. (option_map_or (λ place. placed_at m (place_tuned limit place) old) o old).ended ≡ old.ended) [ None ↦ refl | Some q ↦ refl ])
      (λ none. ap (option_map (place_tuned limit)) none) (some (place_at m old.slots) refl) named (λ edit away out closes. absurd (not (place_at m old.slots) refl edit away out closes))
    where
      some : (q : Option Place) → place_at m old.slots ≡ q → is_some (option_map (place_tuned limit) q) ≡ true
      some None at = absurd (let gone : None ≡ watch_at m (inputs_after log.topo log.edits).monitors = watched None at in let never : false ≡ true = ap is_some gone ∙ there in cc)
      some (Some q) at = refl

      not : (q : Option Place) → place_at m old.slots ≡ q → (edit : ℕ) (away : Away) → option_and_then away_of (option_map (place_tuned limit) q) ≡ Some away → away.closing ≡ Some edit → ⊥
      not None at edit away out closes = let never : None ≡ Some away = out in cc
      not (Some (Here held)) at edit away out closes = let never : None ≡ Some away = out in cc
      not (Some (Out a)) at edit away out closes =
          let same : record a { watch = retuned a.watch limit } ≡ away = one_value (Some (record a { watch = retuned a.watch limit })) (record a { watch = retuned a.watch limit }) away refl out in
          let closing : a.closing ≡ Some edit = ap (λ (x : Away). x.closing) same ∙ closes in
          let none : None ≡ watch_at m (inputs_after log.topo log.edits).monitors = sym (ap (watch_unless_closing a.watch) closing) ∙ watched (Some (Out a)) at in
          let never : false ≡ true = ap is_some none ∙ there in cc

  pub ends_detached : (e : AnEdit) → IsStrictlySortedBy nat_cmp (keys_of old.slots) → is_some (watch_at m (inputs_after log.topo log.edits).monitors) ≡ true → new ≡ record log { edits = log.edits ++ e ∷ [] }
      → watch_at m (inputs_after new.topo new.edits).monitors ≡ None → was_attached m (inputs_after new.topo new.edits).monitors ≡ true → HaveEnded new (detached_at m (length new.edits) old)
  ends_detached e order there is none was = go (place_at m old.slots) refl
    where
      edit : ℕ
      edit = length new.edits

      placed : IsPlaced m (place_detached edit (place_at m old.slots)) old (detached_at m edit old)
      placed = detached_placed m edit old (detached_at m edit old) order refl

      end_of : (w : Watch) → Some w ≡ watch_at m (inputs_after log.topo log.edits).monitors → IsEndOf new m w edit
      end_of w had = end_now log new e m w is (sym had) none

      nowhere : (q : Option Place) → place_at m old.slots ≡ q → place_at m old.slots ≡ None → place_detached edit q ≡ None
      nowhere None at here = refl
      nowhere (Some q) at here = absurd (clash (place_at m old.slots) q here at)

      out_end : (away : Away) (closing : Option ℕ) → away.closing ≡ closing → place_at m old.slots ≡ Some (Out away) → (k : ℕ) (a : Away) → Some (record away { closing = Some edit }) ≡ Some a → a.closing ≡ Some k → IsEndOf new m a.watch k
      out_end away (Some k) closes at j a same has = absurd (let gone : None ≡ watch_at m (inputs_after log.topo log.edits).monitors = sym (ap (watch_unless_closing away.watch) closes) ∙ watched (Some (Out away)) at in let never : false ≡ true = ap is_some gone ∙ there in cc)
      out_end away None closes at j a same has =
          let one : record away { closing = Some edit } ≡ a = one_value (Some (record away { closing = Some edit })) (record away { closing = Some edit }) a refl same in
          let number : Some edit ≡ Some j = ap (λ (x : Away). x.closing) one ∙ has in
          let equal : edit ≡ j = one_value (Some edit) edit j refl number in
          subst (λ k. IsEndOf new m a.watch k) equal (subst (λ (x : Away). IsEndOf new m x.watch edit) one (end_of away.watch (sym (ap (watch_unless_closing away.watch) closes) ∙ watched (Some (Out away)) at)))

      go : (q : Option Place) → place_at m old.slots ≡ q → HaveEnded new (detached_at m edit old)
      go None at = absurd (let gone : None ≡ watch_at m (inputs_after log.topo log.edits).monitors = watched None at in let never : false ≡ true = ap is_some gone ∙ there in cc)
      go (Some (Here held)) at =
          let made : detached_at m edit old ≡ ended_at m held edit old = ap (λ q. detached_from q m edit old) at in
          let here : IsPlaced m None old (detached_at m edit old) = subst (λ q. IsPlaced m (place_detached edit q) old (detached_at m edit old)) at placed in
          ends_more log new (Some m) old (detached_at m edit old) goes h m (Here held) (told held edit) (ap (λ (b : BoxesData). b.ended) made) at
          (gone_by log new (Some m) old (detached_at m edit old) goes h m None here (λ _. refl)) here named was (end_of held.watch (watched (Some (Here held)) at))
          (closing_by log new (Some m) old (detached_at m edit old) goes h m None here (λ k a out closes. absurd (let never : None ≡ Some a = out in cc)))
      go (Some (Out away)) at =
          let made : detached_at m edit old ≡ placed_at m (Out (record away { closing = Some edit })) old = ap (λ q. detached_from q m edit old) at in
          let there_still : IsPlaced m (Some (Out (record away { closing = Some edit }))) old (detached_at m edit old) = subst (λ q. IsPlaced m (place_detached edit q) old (detached_at m edit old)) at placed in
          placed_ends log new (Some m) old (detached_at m edit old) goes h m (Some (Out (record away { closing = Some edit }))) there_still (ap (λ (b : BoxesData). b.ended) made)
          (λ none. absurd (clash (place_at m old.slots) (Out away) none at)) refl named (out_end away away.closing refl at)

-- A change that nothing refuses is of a monitor that is attached.
retune_known : (edits : ℕ) (now : InputData) (m limit : ℕ) → refusal edits now (retune m limit) ≡ None → is_some (watch_at m now.monitors) ≡ true
retune_known edits now m limit none = go (watch_at m now.monitors) refl none
  where
    go : (o : Option Watch) → watch_at m now.monitors ≡ o → option_map_or (λ why. Some why) (option_map_or limit_refusal o (Some fault.NoMonitor)) (if nat_le most_edits edits then Some fault.LogFull else None) ≡ None
        → is_some (watch_at m now.monitors) ≡ true
    go None at h = absurd (let never : Some fault.NoMonitor ≡ None = h in cc)
    go (Some w) at h = ap is_some at

detach_known : (edits : ℕ) (now : InputData) (m : ℕ) → refusal edits now (detach m) ≡ None → is_some (watch_at m now.monitors) ≡ true
detach_known edits now m none = go (is_some (watch_at m now.monitors)) refl none
  where
    go : (b : Bool) → is_some (watch_at m now.monitors) ≡ b → option_map_or (λ why. Some why) (if b then None else Some fault.NoMonitor) (if nat_le most_edits edits then Some fault.LogFull else None) ≡ None
        → is_some (watch_at m now.monitors) ≡ true
    go true at h = at
    go false at h = absurd (let never : Some fault.NoMonitor ≡ None = h in cc)

-- One edit more.
pub goes_on : (log new : LogData) (e : AnEdit) → new ≡ record log { edits = log.edits ++ e ∷ [] } → inputs_after new.topo new.edits ≡ changed (inputs_after log.topo log.edits) e
    → ((n : ℕ) → was_attached n (inputs_after log.topo log.edits).monitors ≡ true → was_attached n (changed (inputs_after log.topo log.edits) e).monitors ≡ true) → Goes log new (edited_monitor e)
goes_on log new e is after was = record {
  was = λ n h. ap (λ (i : InputData). was_attached n i.monitors) after ∙ was n h;
  ends = end_more log new e is;
  back = λ n h. was_before (inputs_after log.topo log.edits) e n (ap (λ (i : InputData). was_attached n i.monitors) (sym after) ∙ h);
}

pub ends_changed : (log new : LogData) (c : Change) (number : ℕ) (old : BoxesData) → IsStrictlySortedBy nat_cmp (keys_of old.slots) → AreAttached (inputs_after log.topo log.edits) old → HaveEnded log old
    → refusal (length log.edits) (inputs_after log.topo log.edits) (plain_change c) ≡ None → new ≡ record log { edits = log.edits ++ plain_change c ∷ [] } → number ≡ length new.edits
    → inputs_after new.topo new.edits ≡ changed (inputs_after log.topo log.edits) (plain_change c) → HaveEnded new (boxes_after (plain_change c) number old)
ends_changed log new c number old order are h accepted is last after = go c accepted is after
  where
    same : (c : Change) → edited_monitor (plain_change c) ≡ None → new ≡ record log { edits = log.edits ++ plain_change c ∷ [] } → inputs_after new.topo new.edits ≡ changed (inputs_after log.topo log.edits) (plain_change c) → HaveEnded new old
    same c nobody is after =
        let goes : Goes log new (edited_monitor (plain_change c)) = goes_on log new (plain_change c) is after (was_more (inputs_after log.topo log.edits) c) in
        ends_same log new (edited_monitor (plain_change c)) old old goes h refl (λ n was none. none) (λ n there. there) (λ n it. absurd (clash (edited_monitor (plain_change c)) n nobody it)) (λ n edit away out closes. goes.ends n away.watch edit (h.closing n edit away out closes))

    go : (c : Change) → refusal (length log.edits) (inputs_after log.topo log.edits) (plain_change c) ≡ None → new ≡ record log { edits = log.edits ++ plain_change c ∷ [] }
        → inputs_after new.topo new.edits ≡ changed (inputs_after log.topo log.edits) (plain_change c) → HaveEnded new (boxes_after (plain_change c) number old)
    go (change.Add f) accepted is after = same (change.Add f) refl is after
    go (change.Replace f) accepted is after = same (change.Replace f) refl is after
    go (change.Withdraw name k) accepted is after = same (change.Withdraw name k) refl is after
    go (change.ClearLink name) accepted is after = same (change.ClearLink name) refl is after
    go (change.SetRegion name k area) accepted is after = same (change.SetRegion name k area) refl is after
    go (change.RemoveRegion name k) accepted is after = same (change.RemoveRegion name k) refl is after
    go (change.Retune m limit) accepted is after =
        ends_tuned log new old m (goes_on log new (retune m limit) is after (was_more (inputs_after log.topo log.edits) (change.Retune m limit))) h are limit (retune_known (length log.edits) (inputs_after log.topo log.edits) m limit accepted)
    go (change.Detach m) accepted is after =
        subst (λ k. HaveEnded new (detached_at m k old)) (sym last)
        (ends_detached log new old m (goes_on log new (detach m) is after (was_more (inputs_after log.topo log.edits) (change.Detach m))) h are (detach m) order (detach_known (length log.edits) (inputs_after log.topo log.edits) m accepted) is
        (ap (λ (i : InputData). watch_at m i.monitors) after ∙ put_here m None (inputs_after log.topo log.edits).monitors)
        (ap (λ (i : InputData). was_attached m i.monitors) after ∙ is_put m None (inputs_after log.topo log.edits).monitors))

pub ends_attached : (log new : LogData) (m : ℕ) (w : Watch) (held : Held) (old boxes : BoxesData) → HaveEnded log old → refusal (length log.edits) (inputs_after log.topo log.edits) (attach m w) ≡ None
    → Goes log new (Some m) → boxes ≡ attached_at m held old → HaveEnded new boxes
ends_attached log new m w held old boxes h accepted goes comes =
    ends_same log new (Some m) old boxes goes h (ap (λ (b : BoxesData). b.ended) comes) nowhere (there_by log new (Some m) old boxes goes h m (Some (Here held)) placed refl)
    (λ n it. ap (λ k. is_some (place_at k boxes.slots)) (sym (one_value (Some m) m n refl it)) ∙ ap is_some placed.here)
    (closing_by log new (Some m) old boxes goes h m (Some (Here held)) placed (λ k a out closes. absurd (let never : None ≡ Some a = out in cc)))
  where
    placed : IsPlaced m (Some (Here held)) old boxes
    placed = attached_placed m held old boxes comes

    nowhere : (n : ℕ) → was_attached n (inputs_after log.topo log.edits).monitors ≡ true → place_at n old.slots ≡ None → place_at n boxes.slots ≡ None
    nowhere n was none = elim (same_number m n) [
      | inl same ↦ absurd (
          let not : was_attached n (inputs_after log.topo log.edits).monitors ≡ false = subst (λ k. was_attached k (inputs_after log.topo log.edits).monitors ≡ false) same (attach_fresh (length log.edits) (inputs_after log.topo log.edits) m w accepted) in
          let never : true ≡ false = sym was ∙ not in cc)
      | inr apart ↦ placed.others n apart ∙ none
    ]

-- Monitors that keep all but their tallies.
pub ends_still : (log new : LogData) (old boxes : BoxesData) → new ≡ log → KeepsBoxes old boxes → HaveEnded log old → HaveEnded new boxes
ends_still log new old boxes same keeps h = ends_same log new None old boxes goes h keeps.ended (λ n was none. nowhere n none) still_there (λ n it. absurd (let never : None ≡ Some n = it in cc)) (λ n edit away out closes. goes.ends n away.watch edit (h.closing n edit away (outs n ∙ out) closes))
  where
    goes : Goes log new None
    goes = stays log new same

    mapped : (p : Option Place) → is_some (option_map without_tally p) ≡ is_some p
    mapped None = refl
    mapped (Some p) = refl

    still_there : (n : ℕ) → is_some (place_at n old.slots) ≡ true → is_some (place_at n boxes.slots) ≡ true
    still_there n was = sym (mapped (place_at n boxes.slots)) ∙ ap is_some (keeps.places n) ∙ mapped (place_at n old.slots) ∙ was

    there : (p : Option Place) → option_map without_tally p ≡ None → p ≡ None
    there None is = refl
    there (Some q) is = absurd (let never : Some (without_tally q) ≡ None = is in cc)

    nowhere : (n : ℕ) → place_at n old.slots ≡ None → place_at n boxes.slots ≡ None
    nowhere n none = there (place_at n boxes.slots) (keeps.places n ∙ ap (option_map without_tally) none)

    out_of : (p : Option Place) → option_and_then away_of (option_map without_tally p) ≡ option_and_then away_of p
    out_of None = refl
    out_of (Some (Here held)) = refl
    out_of (Some (Out a)) = refl

    outs : (n : ℕ) → away_at n old.slots ≡ away_at n boxes.slots
    outs n = sym (out_of (place_at n old.slots)) ∙ sym (ap (option_and_then away_of) (keeps.places n)) ∙ out_of (place_at n boxes.slots)

-- A monitor goes out.
pub ends_left : (log : LogData) (m ticket : ℕ) (held : Held) (old boxes : BoxesData) → held_at m old.slots ≡ Some held → boxes ≡ taken_at m ticket old → HaveEnded log old → HaveEnded log boxes
ends_left log m ticket held old boxes here leaves h =
    placed_ends log log None old boxes (stays log log refl) h m (Some (Out (leaving ticket held))) (taken_placed m ticket held old boxes here leaves)
    (ap (λ (b : BoxesData). b.ended) leaves ∙ ap (λ o. (option_map_or (λ x. placed_at m (Out (leaving ticket x)) old) o old).ended) here)
    (λ none. absurd (clash (place_at m old.slots) (Here held) none (place_here (place_at m old.slots) held here))) refl (nobody m)
    (λ k a out closes. absurd (let same : leaving ticket held ≡ a = one_value (Some (leaving ticket held)) (leaving ticket held) a refl out in let never : None ≡ Some k = ap (λ (x : Away). x.closing) same ∙ closes in cc))

-- A monitor comes back.
pub ends_back : (log : LogData) (m : ℕ) (away : Away) (held : Held) (old boxes : BoxesData) → IsBoxes old → away_at m old.slots ≡ Some away → away.taken ≡ held.watch → boxes ≡ brought_back m held old
    → was_attached m (inputs_after log.topo log.edits).monitors ≡ true → HaveEnded log old → HaveEnded log boxes
ends_back log m away held old boxes order out left comes was h = go away.closing refl
  where
    goes : Goes log log None
    goes = stays log log refl

    back : Held
    back = tuned (limit_of away.watch) held

    there : place_at m old.slots ≡ Some (Out away)
    there = place_out (place_at m old.slots) away out

    placed : IsPlaced m (place_back away.closing back) old boxes
    placed = back_placed m away held old boxes order.rises out comes

    made : boxes ≡ back_with away.closing m back old
    made = comes ∙ ap (λ o. option_map_or (λ (a : Away). back_with a.closing m (tuned (limit_of a.watch) held) old) o old) out

    nowhere : (p : Option Place) → place_at m old.slots ≡ None → p ≡ None
    nowhere p none = absurd (clash (place_at m old.slots) (Out away) none there)

    watch : away.watch ≡ back.watch
    watch = sym (found_kept m old.slots (Out away) order.kept there) ∙ ap (λ w. retuned w (limit_of away.watch)) left

    go : (closing : Option ℕ) → away.closing ≡ closing → HaveEnded log boxes
    go None closes =
        let here : IsPlaced m (Some (Here back)) old boxes = subst (λ c. IsPlaced m (place_back c back) old boxes) closes placed in
        placed_ends log log None old boxes goes h m (Some (Here back)) here (ap (λ (b : BoxesData). b.ended) made ∙ ap (λ c. (back_with c m back old).ended) closes) (nowhere (Some (Here back))) refl (nobody m)
        (λ k a none closes. absurd (let never : None ≡ Some a = none in cc))
    go (Some edit) closes =
        let gone : IsPlaced m None old boxes = subst (λ c. IsPlaced m (place_back c back) old boxes) closes placed in
        ends_more log log None old boxes goes h m (Out away) (told back edit) (ap (λ (b : BoxesData). b.ended) made ∙ ap (λ c. (back_with c m back old).ended) closes) there
        (gone_by log log None old boxes goes h m None gone (λ _. refl)) gone (nobody m) was (subst (λ w. IsEndOf log m w edit) watch (h.closing m edit away out closes))
        (closing_by log log None old boxes goes h m None gone (λ k a none closes. absurd (let never : None ≡ Some a = none in cc)))

-- Nobody has told anything at first.
pub no_ends : (log : LogData) (boxes : BoxesData) → log.edits ≡ [] → boxes ≡ record { slots = []; ended = [] } → HaveEnded log boxes
no_ends log boxes first none = subst (HaveEnded log) (sym none) (record {
  gone = λ at e is. absurd (let never : None ≡ Some e = is in cc);
  known = λ at e is. absurd (let never : None ≡ Some e = is in cc);
  once = λ at other e f is has one. absurd (let never : None ≡ Some e = is in cc);
  told = λ at e is. absurd (let never : None ≡ Some e = is in cc);
  closing = λ n edit away is closes. absurd (let never : None ≡ Some away = is in cc);
  all = λ n was. absurd (let never : false ≡ true = sym (ap (λ es. was_attached n (inputs_after log.topo es).monitors) first) ∙ was in cc);
})

-- ---- where each monitor is

pub accounted_for : MonitorsAreAccountedFor
accounted_for core sound number was = go (sound.ends.all number was)
  where
    log : LogData
    log = log_of core

    of_away : (a : Away) (closing : Option ℕ) → a.closing ≡ closing → place_at number core.boxes.slots ≡ Some (Out a) → IsAccountedFor log core.boxes number
    of_away a None closes there = inl (sym (ap is_some (sym (ap (watch_unless_closing a.watch) closes) ∙ sym (ap (option_and_then watch_of_place) there) ∙ sound.attached number)))
    of_away a (Some edit) closes there = let out : away_at number core.boxes.slots ≡ Some a = ap (option_and_then away_of) there in inr (inl (a, edit, out, closes, sound.ends.closing number edit a out closes))

    at_place : (p : Place) → place_at number core.boxes.slots ≡ Some p → IsAccountedFor log core.boxes number
    at_place (Here held) at = inl (sym (ap is_some (sym (ap (option_and_then watch_of_place) at) ∙ sound.attached number)))
    at_place (Out away) at = of_away away away.closing refl at

    placed : (p : Option Place) → place_at number core.boxes.slots ≡ p → is_some p ≡ true → IsAccountedFor log core.boxes number
    placed None at there = absurd (let never : false ≡ true = there in cc)
    placed (Some p) at there = at_place p at

    go : IsKnown core.boxes number → IsAccountedFor log core.boxes number
    go (inl there) = placed (place_at number core.boxes.slots) refl there
    go (inr told) = inr (inr (told.0, told.1, told.2, told.3, subst (λ n. IsEndOf log n told.1.1.watch told.1.1.closed_at) told.3 (sound.ends.told told.0 told.1 told.2)))
