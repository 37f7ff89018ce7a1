-- What is kept of those that are out stays so.
use Rattle.std.proofs.Common.{◌≡◌, ℕ, List, Option, Some, refl, sym, ap, subst, ◌∙◌}
use Rattle.std.specs.Option.{IfSome, option_map_or}
use Rattle.std.specs.Ordering.{nat_cmp}
use Rattle.std.specs.BTreeMap.{insert_entry, is_at}
use Rattle.std.specs.Map.{remove_entry, set_value}
use Rattle.std.specs.Option.{option_and_then}
use Rattle.std.proofs.lemmas.Map.Steps.{set_value_same}
use Rattle.tl_monitor.specs.declared.monitor.Settlement.{Settlement}
use Rattle.std.proofs.lemmas.Map.Views.{All-map-remove_entry, All-values-insert_entry, All-values-set_value, IfSome-lookup_from_All}
use Rattle.tl_beats.specs.declared.watch.Watch.{Watch}
use Rattle.tl_beats.specs.declared.watch.Watch.TheVariants as watch
use Rattle.tl_definitions.specs.Watching.{retuned}
use Rattle.tl_monitor.specs.Held.{Held}
use Rattle.tl_monitor.specs.Places.{Place, Here, Out, held_of, limit_of, IsKept, leaving, place_tuned, place_closing, place_left}
use Rattle.tl_monitor.specs.Boxes.{BoxesData, AreKept, place_at, placed_at, taken_at}

-- A watch with its own limit is the same.
pub own_limit : (w : Watch) → retuned w (limit_of w) ≡ w
own_limit (watch.Budget link class limit) = refl
own_limit (watch.After link first second) = refl

-- With the limit of one that was retuned it is that one retuned.
pub limit_again : (taken w : Watch) (limit : ℕ) → retuned taken (limit_of w) ≡ w → retuned taken (limit_of (retuned w limit)) ≡ retuned w limit
limit_again (watch.Budget link class old) (watch.Budget l c o) limit h = ap (λ w. retuned w limit) h
limit_again (watch.Budget link class old) (watch.After l f s) limit h = h
limit_again (watch.After link first second) (watch.Budget l c o) limit h = ap (λ w. retuned w limit) h
limit_again (watch.After link first second) (watch.After l f s) limit h = h

pub found_kept : (m : ℕ) (slots : List (ℕ × Place)) (place : Place) → AreKept slots → place_at m slots ≡ Some place → IsKept place
found_kept m slots place kept found = subst (λ o. IfSome o IsKept) found (IfSome-lookup_from_All IsKept (is_at (nat_cmp m)) slots kept.each)

pub removed_kept : (m : ℕ) (slots : List (ℕ × Place)) → AreKept slots → AreKept (remove_entry (is_at (nat_cmp m)) slots)
removed_kept m slots kept = record { each = All-map-remove_entry (is_at (nat_cmp m)) (λ (e : ℕ × Place). e.1) IsKept slots kept.each }

pub attached_kept : (m : ℕ) (held : Held) (slots : List (ℕ × Place)) → AreKept slots → AreKept (insert_entry nat_cmp slots m (Here held))
attached_kept m held slots kept = record { each = All-values-insert_entry nat_cmp m (Here held) IsKept slots kept.each tt }

set_kept : (m : ℕ) (place : Place) (slots : List (ℕ × Place)) → AreKept slots → IsKept place → AreKept (set_value (is_at (nat_cmp m)) slots place)
set_kept m place slots kept h = record { each = All-values-set_value (is_at (nat_cmp m)) IsKept slots place kept.each h }

pub put_kept : (m : ℕ) (held : Held) (slots : List (ℕ × Place)) → AreKept slots → AreKept (set_value (is_at (nat_cmp m)) slots (Here held))
put_kept m held slots kept = set_kept m (Here held) slots kept tt

pub tuned_kept : (m limit : ℕ) (place : Place) (slots : List (ℕ × Place)) → AreKept slots → place_at m slots ≡ Some place → AreKept (set_value (is_at (nat_cmp m)) slots (place_tuned limit place))
tuned_kept m limit place slots kept found = set_kept m (place_tuned limit place) slots kept (go place (found_kept m slots place kept found))
  where
    go : (p : Place) → IsKept p → IsKept (place_tuned limit p)
    go (Here held) h = tt
    go (Out away) h = limit_again away.taken away.watch limit h

pub closing_kept : (m edit : ℕ) (place : Place) (slots : List (ℕ × Place)) → AreKept slots → place_at m slots ≡ Some place → AreKept (set_value (is_at (nat_cmp m)) slots (place_closing edit place))
closing_kept m edit place slots kept found = set_kept m (place_closing edit place) slots kept (go place (found_kept m slots place kept found))
  where
    go : (p : Place) → IsKept p → IsKept (place_closing edit p)
    go (Here held) h = tt
    go (Out away) h = h

pub left_kept : (m ticket : ℕ) (place : Place) (slots : List (ℕ × Place)) → AreKept slots → place_at m slots ≡ Some place → AreKept (set_value (is_at (nat_cmp m)) slots (place_left ticket place))
left_kept m ticket place slots kept found = set_kept m (place_left ticket place) slots kept (go place (found_kept m slots place kept found))
  where
    go : (p : Place) → IsKept p → IsKept (place_left ticket p)
    go (Here held) h = own_limit held.watch
    go (Out away) h = h

-- What a place makes of itself as its monitor goes out is what goes out of the boxes.
pub left_is : (m ticket : ℕ) (place : Place) (slots : List (ℕ × Place)) (ended : List (ℕ × Settlement)) (new : List (ℕ × Place)) (boxes : BoxesData) → place_at m slots ≡ Some place
    → new ≡ set_value (is_at (nat_cmp m)) slots (place_left ticket place) → record { slots = slots; ended = ended } ≡ boxes → record { slots = new; ended = ended } ≡ taken_at m ticket boxes
left_is m ticket place slots ended new boxes found set view = go place found set ∙ ap (taken_at m ticket) view
  where
    before : BoxesData
    before = record { slots = slots; ended = ended }

    with_slots : List (ℕ × Place) → BoxesData
    with_slots es = record { slots = es; ended = ended }

    taken : (o : Option Place) → place_at m slots ≡ o → option_map_or (λ held. placed_at m (Out (leaving ticket held)) before) (option_and_then held_of o) before ≡ taken_at m ticket before
    taken o h = ap (λ o. option_map_or (λ held. placed_at m (Out (leaving ticket held)) before) (option_and_then held_of o) before) (sym h)

    go : (p : Place) → place_at m slots ≡ Some p → new ≡ set_value (is_at (nat_cmp m)) slots (place_left ticket p) → with_slots new ≡ taken_at m ticket before
    go (Here held) f is = ap with_slots is ∙ taken (Some (Here held)) f
    go (Out away) f is = ap with_slots (is ∙ set_value_same (is_at (nat_cmp m)) slots (Out away) f) ∙ taken (Some (Out away)) f
