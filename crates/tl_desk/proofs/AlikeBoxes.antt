-- What each call makes of monitors that are the same.
use Rattle.std.proofs.Common.{◌≡◌, ℕ, ◌⊎◌, inl, inr, List, [], ◌∷◌, ◌++◌, Option, Some, None, refl, sym, ap, ◌∙◌}
use Rattle.std.specs.Prelude.{is_some}
use Rattle.std.specs.Option.{option_map, option_map_or, option_and_then}
use Rattle.tl_beats.specs.declared.watch.Watch.{Watch}
use Rattle.tl_monitor.specs.Boxes.{BoxesData, IsBoxes, place_at, held_at, away_at, placed_at, attached_at, retuned_at, detached_from, detached_at, taken_at, back_with, brought_back}
use Rattle.tl_monitor.specs.Places.{Place, Here, Out, held_of, away_of, limit_of, tuned, place_tuned, place_left, leaving}
use Rattle.tl_monitor.specs.declared.away.Away.{Away}
use Rattle.tl_definitions.specs.Watching.{retuned}
use Rattle.tl_edits.specs.Edits.{AnEdit, add, replace, withdraw, clear_link, set_region, remove_region, attach, retune, detach}
use Rattle.tl_monitor.specs.Held.{Held}
use Rattle.tl_monitor.specs.declared.monitor.Settlement.{Settlement}
use Rattle.tl_desk.specs.Alike.{without_holding, HaveSameMonitors}
use Rattle.tl_desk.specs.Steps.{boxes_after}
use Rattle.tl_desk.proofs.BoxLemmas.{IsPlaced, same_number, stays_placed, set_placed, tuned_placed, place_detached, detached_placed, attached_placed, place_back, back_placed}
use Rattle.tl_desk.proofs.TicketLemmas.{clash, one_value}

abbrev shown : Option Place → Option Place
shown p = option_map without_holding p

-- ---- one place

module _ (m : ℕ) (p q : Option Place) (one one_after other other_after : BoxesData) (first : IsPlaced m p one one_after) (second : IsPlaced m q other other_after) (same : shown p ≡ shown q) where
  placed_alike : HaveSameMonitors one other → one_after.ended ≡ other_after.ended → HaveSameMonitors one_after other_after
  placed_alike alike ended = record { ended = ended; places = λ n. go n (same_number m n) }
    where
      go : (n : ℕ) → (m ≡ n) ⊎ (m ≡ n → ⊥) → shown (place_at n one_after.slots) ≡ shown (place_at n other_after.slots)
      go n (inl at) = ap (λ k. shown (place_at k one_after.slots)) (sym at) ∙ ap shown first.here ∙ same ∙ sym (ap shown second.here) ∙ ap (λ k. shown (place_at k other_after.slots)) at
      go n (inr apart) = ap shown (first.others n apart) ∙ alike.places n ∙ sym (ap shown (second.others n apart))

-- where a call makes of the place what it makes of what is known of it
made_alike : (f : Option Place → Option Place) → ((p : Option Place) → shown (f p) ≡ f (shown p)) → (p q : Option Place) → shown p ≡ shown q → shown (f p) ≡ shown (f q)
made_alike f knows p q same = knows p ∙ ap f same ∙ sym (knows q)

-- ---- retunes

tuned_shown : (limit : ℕ) (p : Option Place) → shown (option_map (place_tuned limit) p) ≡ option_map (place_tuned limit) (shown p)
tuned_shown limit None = refl
tuned_shown limit (Some (Here held)) = refl
tuned_shown limit (Some (Out away)) = refl

tuned_ended : (m limit : ℕ) (old : BoxesData) → (retuned_at m limit old).ended ≡ old.ended
tuned_ended m limit old = go (place_at m old.slots)
  where
    go : (p : Option Place) → (option_map_or (λ place. placed_at m (place_tuned limit place) old) p old).ended ≡ old.ended
    go None = refl
    go (Some p) = refl

tuned_alike : (m limit : ℕ) (one other : BoxesData) → HaveSameMonitors one other → HaveSameMonitors (retuned_at m limit one) (retuned_at m limit other)
tuned_alike m limit one other alike =
    placed_alike m (option_map (place_tuned limit) (place_at m one.slots)) (option_map (place_tuned limit) (place_at m other.slots)) one (retuned_at m limit one) other (retuned_at m limit other)
    (tuned_placed m limit one (retuned_at m limit one) refl) (tuned_placed m limit other (retuned_at m limit other) refl)
    (made_alike (option_map (place_tuned limit)) (tuned_shown limit) (place_at m one.slots) (place_at m other.slots) (alike.places m)) alike
    (tuned_ended m limit one ∙ alike.ended ∙ sym (tuned_ended m limit other))

-- ---- detaches

detached_shown : (edit : ℕ) (p : Option Place) → shown (place_detached edit p) ≡ place_detached edit (shown p)
detached_shown edit None = refl
detached_shown edit (Some (Here held)) = refl
detached_shown edit (Some (Out away)) = refl

-- what is told then
abbrev told_then : Option Place → ℕ → ℕ → List (ℕ × Settlement) → List (ℕ × Settlement)
told_then None m edit told = told
told_then (Some (Here held)) m edit told = told ++ (m, record { watch = held.watch; closed_at = edit }) ∷ []
told_then (Some (Out away)) m edit told = told

detached_ended : (m edit : ℕ) (old : BoxesData) (p : Option Place) → (detached_from p m edit old).ended ≡ told_then (shown p) m edit old.ended
detached_ended m edit old None = refl
detached_ended m edit old (Some (Here held)) = refl
detached_ended m edit old (Some (Out away)) = refl

detached_alike : (m edit : ℕ) (one other : BoxesData) → IsBoxes one → IsBoxes other → HaveSameMonitors one other → HaveSameMonitors (detached_at m edit one) (detached_at m edit other)
detached_alike m edit one other is has alike =
    placed_alike m (place_detached edit (place_at m one.slots)) (place_detached edit (place_at m other.slots)) one (detached_at m edit one) other (detached_at m edit other)
    (detached_placed m edit one (detached_at m edit one) is.rises refl) (detached_placed m edit other (detached_at m edit other) has.rises refl)
    (made_alike (place_detached edit) (detached_shown edit) (place_at m one.slots) (place_at m other.slots) (alike.places m)) alike
    (detached_ended m edit one (place_at m one.slots) ∙ ap (λ p. told_then p m edit one.ended) (alike.places m) ∙ ap (told_then (shown (place_at m other.slots)) m edit) alike.ended
    ∙ sym (detached_ended m edit other (place_at m other.slots)))

-- ---- each edit

pub edit_alike : (e : AnEdit) (number : ℕ) (one other : BoxesData) → IsBoxes one → IsBoxes other → HaveSameMonitors one other → HaveSameMonitors (boxes_after e number one) (boxes_after e number other)
edit_alike (add f) number one other is has alike = alike
edit_alike (replace f) number one other is has alike = alike
edit_alike (withdraw name n) number one other is has alike = alike
edit_alike (clear_link name) number one other is has alike = alike
edit_alike (set_region name n area) number one other is has alike = alike
edit_alike (remove_region name n) number one other is has alike = alike
edit_alike (attach monitor w) number one other is has alike = alike
edit_alike (retune monitor limit) number one other is has alike = tuned_alike monitor limit one other alike
edit_alike (detach monitor) number one other is has alike = detached_alike monitor number one other is has alike

pub attach_alike : (m : ℕ) (w : Watch) (held back : Held) (one one_after other other_after : BoxesData) → held.watch ≡ w → back.watch ≡ w → one_after ≡ attached_at m held one → other_after ≡ attached_at m back other
    → HaveSameMonitors one other → HaveSameMonitors one_after other_after
attach_alike m w held back one one_after other other_after same equal comes arrives alike =
    placed_alike m (Some (Here held)) (Some (Here back)) one one_after other other_after (attached_placed m held one one_after comes) (attached_placed m back other other_after arrives)
    (ap (λ v. Some (Here (record { watch = v; tally = 0; closed_at = 0 }))) (same ∙ sym equal)) alike
    (ap (λ (b : BoxesData). b.ended) comes ∙ alike.ended ∙ sym (ap (λ (b : BoxesData). b.ended) arrives))

-- ---- monitors that go out

left_shown : (ticket : ℕ) (p : Option Place) → shown (option_map (place_left ticket) p) ≡ option_map (place_left ticket) (shown p)
left_shown ticket None = refl
left_shown ticket (Some (Here held)) = refl
left_shown ticket (Some (Out away)) = refl

left_placed : (m ticket : ℕ) (old new : BoxesData) → new ≡ taken_at m ticket old → IsPlaced m (option_map (place_left ticket) (place_at m old.slots)) old new
left_placed m ticket old new is = go (place_at m old.slots) refl is
  where
    go : (p : Option Place) → place_at m old.slots ≡ p → new ≡ option_map_or (λ held. placed_at m (Out (leaving ticket held)) old) (option_and_then held_of p) old → IsPlaced m (option_map (place_left ticket) p) old new
    go None at same = stays_placed m None old new at same
    go (Some (Here held)) at same = set_placed m (Here held) (Out (leaving ticket held)) old new at same
    go (Some (Out away)) at same = stays_placed m (Some (Out away)) old new at same

left_ended : (m ticket : ℕ) (old : BoxesData) → (taken_at m ticket old).ended ≡ old.ended
left_ended m ticket old = go (held_at m old.slots)
  where
    go : (h : Option Held) → (option_map_or (λ held. placed_at m (Out (leaving ticket held)) old) h old).ended ≡ old.ended
    go None = refl
    go (Some held) = refl

pub leave_alike : (m ticket : ℕ) (one one_after other other_after : BoxesData) → one_after ≡ taken_at m ticket one → other_after ≡ taken_at m ticket other → HaveSameMonitors one other → HaveSameMonitors one_after other_after
leave_alike m ticket one one_after other other_after goes leaves alike =
    placed_alike m (option_map (place_left ticket) (place_at m one.slots)) (option_map (place_left ticket) (place_at m other.slots)) one one_after other other_after
    (left_placed m ticket one one_after goes) (left_placed m ticket other other_after leaves)
    (made_alike (option_map (place_left ticket)) (left_shown ticket) (place_at m one.slots) (place_at m other.slots) (alike.places m)) alike
    (ap (λ (b : BoxesData). b.ended) goes ∙ left_ended m ticket one ∙ alike.ended ∙ sym (ap (λ (b : BoxesData). b.ended) leaves ∙ left_ended m ticket other))

-- ---- monitors that come back

out_shown : (p : Option Place) → option_and_then away_of (shown p) ≡ option_and_then away_of p
out_shown None = refl
out_shown (Some (Here held)) = refl
out_shown (Some (Out away)) = refl

pub away_alike : (one other : BoxesData) → HaveSameMonitors one other → (m : ℕ) → away_at m one.slots ≡ away_at m other.slots
away_alike one other alike m = sym (out_shown (place_at m one.slots)) ∙ ap (option_and_then away_of) (alike.places m) ∙ out_shown (place_at m other.slots)

held_shown : (p : Option Place) → is_some (option_and_then held_of (shown p)) ≡ is_some (option_and_then held_of p)
held_shown None = refl
held_shown (Some (Here held)) = refl
held_shown (Some (Out away)) = refl

pub here_alike : (one other : BoxesData) → HaveSameMonitors one other → (m : ℕ) → is_some (held_at m one.slots) ≡ is_some (held_at m other.slots)
here_alike one other alike m = sym (held_shown (place_at m one.slots)) ∙ ap (λ p. is_some (option_and_then held_of p)) (alike.places m) ∙ held_shown (place_at m other.slots)

abbrev told_back : Option ℕ → ℕ → Watch → List (ℕ × Settlement) → List (ℕ × Settlement)
told_back None m w told = told
told_back (Some edit) m w told = told ++ (m, record { watch = w; closed_at = edit }) ∷ []

back_ended : (closing : Option ℕ) (m : ℕ) (held : Held) (old : BoxesData) → (back_with closing m held old).ended ≡ told_back closing m held.watch old.ended
back_ended None m held old = refl
back_ended (Some edit) m held old = refl

back_shown : (closing : Option ℕ) (held back : Held) → held.watch ≡ back.watch → shown (place_back closing held) ≡ shown (place_back closing back)
back_shown None held back same = ap (λ v. Some (Here (record { watch = v; tally = 0; closed_at = 0 }))) same
back_shown (Some edit) held back same = refl

told_here : (m : ℕ) (old new : BoxesData) (held : Held) (away : Away) → away_at m old.slots ≡ Some away → new ≡ brought_back m held old → new.ended ≡ told_back away.closing m (tuned (limit_of away.watch) held).watch old.ended
told_here m old new held away at is =
    ap (λ (b : BoxesData). b.ended) (is ∙ ap (λ o. option_map_or (λ (a : Away). back_with a.closing m (tuned (limit_of a.watch) held) old) o old) at)
    ∙ back_ended away.closing m (tuned (limit_of away.watch) held) old

pub back_alike : (m : ℕ) (held back : Held) (one one_after other other_after : BoxesData) → IsBoxes one → IsBoxes other → option_map (λ (a : Away). a.taken) (away_at m one.slots) ≡ Some held.watch
    → option_map (λ (a : Away). a.taken) (away_at m other.slots) ≡ Some back.watch → one_after ≡ brought_back m held one → other_after ≡ brought_back m back other → HaveSameMonitors one other → HaveSameMonitors one_after other_after
back_alike m held back one one_after other other_after is has left went comes arrives alike = go (away_at m one.slots) refl left
  where
    same : held.watch ≡ back.watch
    same = one_value (option_map (λ (a : Away). a.taken) (away_at m other.slots)) held.watch back.watch (sym (ap (option_map (λ (a : Away). a.taken)) (away_alike one other alike m)) ∙ left) went

    go : (out : Option Away) → away_at m one.slots ≡ out → option_map (λ (a : Away). a.taken) out ≡ Some held.watch → HaveSameMonitors one_after other_after
    go None at taken = absurd (clash None held.watch refl taken)
    go (Some away) at taken =
        let there : away_at m other.slots ≡ Some away = sym (away_alike one other alike m) ∙ at in
        let here_again : Held = tuned (limit_of away.watch) held in
        let there_again : Held = tuned (limit_of away.watch) back in
        let equal : here_again.watch ≡ there_again.watch = ap (λ v. retuned v (limit_of away.watch)) same in
        placed_alike m (place_back away.closing here_again) (place_back away.closing there_again) one one_after other other_after
        (back_placed m away held one one_after is.rises at comes) (back_placed m away back other other_after has.rises there arrives) (back_shown away.closing here_again there_again equal) alike
        (told_here m one one_after held away at comes ∙ ap (told_back away.closing m here_again.watch) alike.ended ∙ ap (λ v. told_back away.closing m v other.ended) equal ∙ sym (told_here m other other_after back away there arrives))
