-- What each call makes of the watches of the monitors that are attached.
use Rattle.std.proofs.Common.{◌≡◌, ℕ, cond, List, Option, Some, None, refl, sym, ap, ◌∙◌}
use Rattle.std.specs.Option.{option_map, option_map_or, option_and_then}
use Rattle.std.specs.Ordering.{nat_cmp}
use Rattle.std.specs.BTreeMap.{is_at}
use Rattle.tl_definitions.specs.Watching.{retuned}
use Rattle.tl_monitor.specs.Held.{Held}
use Rattle.tl_monitor.specs.declared.away.Away.{Away}
use Rattle.tl_monitor.specs.Places.{Place, Here, Out, held_of, away_of, watch_unless_closing, watch_of_place, limit_of, tuned, leaving, place_tuned}
use Rattle.tl_monitor.specs.Boxes.{BoxesData, IsBoxes, place_at, held_at, away_at, attached_watch, placed_at, without, attached_at, given_back_at, retuned_at, detached_from, detached_at, taken_at, back_with, brought_back}
use Rattle.tl_monitor.proofs.KeptLemmas.{found_kept}
use Rattle.tl_monitor.proofs.NumberLemmas.{put_and_taken, put_found, set_twice}
use Rattle.tl_monitor.proofs.PlaceLemmas.{away_there, at_same, put_at, removed_at, set_at, set_alike}

-- ---- the calls

pub attached_watches : (b : BoxesData) (m n : ℕ) (held : Held) → attached_watch n (attached_at m held b) ≡ cond (is_at (nat_cmp n) m) (Some held.watch) (attached_watch n b)
attached_watches b m n held = put_at watch_of_place n m (Here held) b

pub given_back_watches : (b : BoxesData) (m n : ℕ) (held : Held) → IsBoxes b → held_at m b.slots ≡ Some held → attached_watch n (given_back_at m b) ≡ cond (is_at (nat_cmp n) m) None (attached_watch n b)
given_back_watches b m n held are there = ap (λ o. attached_watch n (option_map_or (λ _. without m b) o b)) there ∙ removed_at watch_of_place n m b are

pub retuned_watches : (b : BoxesData) (m n limit : ℕ) → attached_watch n (retuned_at m limit b) ≡ cond (is_at (nat_cmp n) m) (option_map (λ w. retuned w limit) (attached_watch m b)) (attached_watch n b)
retuned_watches b m n limit = go (place_at m b.slots) refl
  where
    tuned_watch : (p : Place) → watch_of_place (place_tuned limit p) ≡ option_map (λ w. retuned w limit) (watch_of_place p)
    tuned_watch (Here held) = refl
    tuned_watch (Out away) = elim away.closing as (λ c. watch_unless_closing (retuned away.watch limit) c ≡ option_map (λ w. retuned w limit) (watch_unless_closing away.watch c)) [ None ↦ refl | Some edit ↦ refl ]

    go : (o : Option Place) → place_at m b.slots ≡ o → attached_watch n (option_map_or (λ place. placed_at m (place_tuned limit place) b) o b)
        ≡ cond (is_at (nat_cmp n) m) (option_map (λ w. retuned w limit) (attached_watch m b)) (attached_watch n b)
    go None h =
        let none : attached_watch m b ≡ None = ap (option_and_then watch_of_place) h in
        sym (ap (λ o. cond (is_at (nat_cmp n) m) (option_map (λ w. retuned w limit) o) (attached_watch n b)) none ∙ at_same watch_of_place n m b None (sym none))
    go (Some p) h =
        set_at watch_of_place n m (place_tuned limit p) p b h
        ∙ ap (λ o. cond (is_at (nat_cmp n) m) o (attached_watch n b)) (tuned_watch p ∙ sym (ap (λ o. option_map (λ w. retuned w limit) (option_and_then watch_of_place o)) h))

pub detached_watches : (b : BoxesData) (m n edit : ℕ) → IsBoxes b → attached_watch n (detached_at m edit b) ≡ cond (is_at (nat_cmp n) m) None (attached_watch n b)
detached_watches b m n edit are = go (place_at m b.slots) refl
  where
    go : (o : Option Place) → place_at m b.slots ≡ o → attached_watch n (detached_from o m edit b) ≡ cond (is_at (nat_cmp n) m) None (attached_watch n b)
    go None h = sym (at_same watch_of_place n m b None (sym (ap (option_and_then watch_of_place) h)))
    go (Some (Here held)) h = removed_at watch_of_place n m b are
    go (Some (Out away)) h = set_at watch_of_place n m (Out (record away { closing = Some edit })) (Out away) b h

pub taken_watches : (b : BoxesData) (m n ticket : ℕ) → attached_watch n (taken_at m ticket b) ≡ attached_watch n b
taken_watches b m n ticket = go (place_at m b.slots) refl
  where
    go : (o : Option Place) → place_at m b.slots ≡ o → attached_watch n (option_map_or (λ held. placed_at m (Out (leaving ticket held)) b) (option_and_then held_of o) b) ≡ attached_watch n b
    go None h = refl
    go (Some (Here held)) h = set_alike watch_of_place n m (Out (leaving ticket held)) (Here held) b h refl
    go (Some (Out away)) h = refl

pub brought_back_watches : (b : BoxesData) (m n : ℕ) (held : Held) (away : Away) → IsBoxes b → away_at m b.slots ≡ Some away → away.taken ≡ held.watch → attached_watch n (brought_back m held b) ≡ attached_watch n b
brought_back_watches b m n held away are out taken =
    ap (λ o. attached_watch n (option_map_or (λ (a : Away). back_with a.closing m (tuned (limit_of a.watch) held) b) o b)) out ∙ go away.closing refl
  where
    there : place_at m b.slots ≡ Some (Out away)
    there = away_there (place_at m b.slots) away out

    kept : retuned held.watch (limit_of away.watch) ≡ away.watch
    kept = ap (λ w. retuned w (limit_of away.watch)) (sym taken) ∙ found_kept m b.slots (Out away) are.kept there

    go : (c : Option ℕ) → away.closing ≡ c → attached_watch n (back_with c m (tuned (limit_of away.watch) held) b) ≡ attached_watch n b
    go None h = set_alike watch_of_place n m (Here (tuned (limit_of away.watch) held)) (Out away) b there (ap Some kept ∙ sym (ap (watch_unless_closing away.watch) h))
    go (Some edit) h =
        removed_at watch_of_place n m b are
        ∙ at_same watch_of_place n m b None (sym (ap (option_and_then watch_of_place) there ∙ ap (watch_unless_closing away.watch) h))

pub put_back_watches : (b : BoxesData) (m n ticket : ℕ) (held : Held) → away_at m b.slots ≡ Some (leaving ticket held) → attached_watch n (placed_at m (Here held) b) ≡ attached_watch n b
put_back_watches b m n ticket held out = set_alike watch_of_place n m (Here held) (Out (leaving ticket held)) b (away_there (place_at m b.slots) (leaving ticket held) out) refl

-- ---- what comes and goes again

pub attached_and_back : (b : BoxesData) (m : ℕ) (held : Held) → place_at m b.slots ≡ None → given_back_at m (attached_at m held b) ≡ b
attached_and_back b m held none =
    ap (λ o. option_map_or (λ _. without m (attached_at m held b)) (option_and_then held_of o) (attached_at m held b)) (put_found m (Here held) b.slots)
    ∙ ap (λ (es : List (ℕ × Place)). record b { slots = es }) (put_and_taken m (Here held) b.slots none)

pub placed_twice : (b : BoxesData) (m : ℕ) (p q : Place) → placed_at m q (placed_at m p b) ≡ placed_at m q b
placed_twice b m p q = ap (λ (es : List (ℕ × Place)). record b { slots = es }) (set_twice (is_at (nat_cmp m)) b.slots p q)

-- ---- which numbers have no place

pub no_place : (b : BoxesData) (m : ℕ) → attached_watch m b ≡ None → away_at m b.slots ≡ None → place_at m b.slots ≡ None
no_place b m watch out = go (place_at m b.slots) watch out
  where
    go : (o : Option Place) → option_and_then watch_of_place o ≡ None → option_and_then away_of o ≡ None → o ≡ None
    go None w a = refl
    go (Some (Here held)) w a = cc
    go (Some (Out away)) w a = cc
