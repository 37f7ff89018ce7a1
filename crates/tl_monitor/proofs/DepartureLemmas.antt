-- What each call makes of those that are out.
use Rattle.std.proofs.Common.{◌≡◌, ℕ, cond, Option, Some, None, refl, sym, ap, ◌∙◌}
use Rattle.std.specs.Option.{option_map_or, option_and_then}
use Rattle.std.specs.Ordering.{nat_cmp}
use Rattle.std.specs.BTreeMap.{is_at}
use Rattle.tl_monitor.specs.Held.{Held}
use Rattle.tl_monitor.specs.declared.away.Away.{Away}
use Rattle.tl_monitor.specs.Places.{Place, Here, Out, held_of, away_of, departure, limit_of, tuned, leaving, place_tuned}
use Rattle.tl_monitor.specs.Boxes.{BoxesData, IsBoxes, place_at, held_at, away_at, departed, placed_at, without, attached_at, given_back_at, retuned_at, detached_from, detached_at, taken_at, back_with, brought_back}
use Rattle.tl_monitor.proofs.NumberLemmas.{own_number}
use Rattle.tl_monitor.proofs.PlaceLemmas.{held_there, away_there, at_same, put_at, removed_at, set_at, set_alike}

pub attached_departures : (b : BoxesData) (m n : ℕ) (held : Held) → place_at m b.slots ≡ None → departed n (attached_at m held b) ≡ departed n b
attached_departures b m n held none = put_at departure n m (Here held) b ∙ at_same departure n m b None (sym (ap (option_and_then departure) none))

pub given_back_departures : (b : BoxesData) (m n : ℕ) → IsBoxes b → departed n (given_back_at m b) ≡ departed n b
given_back_departures b m n are = go (place_at m b.slots) refl
  where
    go : (o : Option Place) → place_at m b.slots ≡ o → departed n (option_map_or (λ _. without m b) (option_and_then held_of o) b) ≡ departed n b
    go None h = refl
    go (Some (Here held)) h = removed_at departure n m b are ∙ at_same departure n m b None (sym (ap (option_and_then departure) h))
    go (Some (Out away)) h = refl

pub retuned_departures : (b : BoxesData) (m n limit : ℕ) → departed n (retuned_at m limit b) ≡ departed n b
retuned_departures b m n limit = go (place_at m b.slots) refl
  where
    go : (o : Option Place) → place_at m b.slots ≡ o → departed n (option_map_or (λ place. placed_at m (place_tuned limit place) b) o b) ≡ departed n b
    go None h = refl
    go (Some (Here held)) h = set_alike departure n m (place_tuned limit (Here held)) (Here held) b h refl
    go (Some (Out away)) h = set_alike departure n m (place_tuned limit (Out away)) (Out away) b h refl

pub detached_departures : (b : BoxesData) (m n edit : ℕ) → IsBoxes b → departed n (detached_at m edit b) ≡ departed n b
detached_departures b m n edit are = go (place_at m b.slots) refl
  where
    go : (o : Option Place) → place_at m b.slots ≡ o → departed n (detached_from o m edit b) ≡ departed n b
    go None h = refl
    go (Some (Here held)) h = removed_at departure n m b are ∙ at_same departure n m b None (sym (ap (option_and_then departure) h))
    go (Some (Out away)) h = set_alike departure n m (Out (record away { closing = Some edit })) (Out away) b h refl

pub taken_departures : (b : BoxesData) (m n ticket : ℕ) (held : Held) → held_at m b.slots ≡ Some held → departed n (taken_at m ticket b) ≡ cond (is_at (nat_cmp n) m) (Some (ticket, held.watch)) (departed n b)
taken_departures b m n ticket held here =
    ap (λ o. departed n (option_map_or (λ h. placed_at m (Out (leaving ticket h)) b) o b)) here
    ∙ set_at departure n m (Out (leaving ticket held)) (Here held) b (held_there (place_at m b.slots) held here)

pub brought_back_departures : (b : BoxesData) (m n : ℕ) (held : Held) (away : Away) → IsBoxes b → away_at m b.slots ≡ Some away → departed n (brought_back m held b) ≡ cond (is_at (nat_cmp n) m) None (departed n b)
brought_back_departures b m n held away are out =
    ap (λ o. departed n (option_map_or (λ (a : Away). back_with a.closing m (tuned (limit_of a.watch) held) b) o b)) out ∙ go away.closing
  where
    go : (c : Option ℕ) → departed n (back_with c m (tuned (limit_of away.watch) held) b) ≡ cond (is_at (nat_cmp n) m) None (departed n b)
    go None = set_at departure n m (Here (tuned (limit_of away.watch) held)) (Out away) b (away_there (place_at m b.slots) away out)
    go (Some edit) = removed_at departure n m b are

-- What is out under a ticket is known as it left.
pub taken_is_out : (b : BoxesData) (m ticket : ℕ) (held : Held) → held_at m b.slots ≡ Some held → away_at m (taken_at m ticket b).slots ≡ Some (leaving ticket held)
taken_is_out b m ticket held here =
    ap (λ o. away_at m (option_map_or (λ h. placed_at m (Out (leaving ticket h)) b) o b).slots) here
    ∙ set_at away_of m m (Out (leaving ticket held)) (Here held) b (held_there (place_at m b.slots) held here)
    ∙ ap (λ t. cond t (Some (leaving ticket held)) (away_at m b.slots)) (own_number m)
