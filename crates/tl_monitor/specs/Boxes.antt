-- The monitors that a desk owns, each here or out with a job, and what those told that ended, as plain data.
use Rattle.std.specs.Prelude.{ℕ, List, [], ◌∷◌, ◌++◌, Option, Some, None}
use Rattle.std.specs.Option.{option_map_or, option_and_then}
use Rattle.std.specs.Ordering.{nat_cmp}
use Rattle.std.specs.BTreeMap.{insert_entry, is_at}
use Rattle.std.specs.List.{All}
use Rattle.std.specs.List.Sorted.{IsStrictlySortedBy}
use Rattle.std.specs.Map.{keys_of, values_of, lookup, remove_entry, set_value}
use Rattle.tl_beats.specs.declared.watch.Watch.{Watch}
use Rattle.tl_monitor.specs.Held.{Held}
use Rattle.tl_monitor.specs.declared.monitor.Settlement.{Settlement}
use Rattle.tl_monitor.specs.declared.away.Away.{Away}
use Rattle.tl_monitor.specs.Places.{Place, Here, Out, held_of, away_of, watch_of_place, departure, limit_of, IsKept, tuned, place_tuned, leaving}

-- Each monitor by number, and what those told that ended, in the order of their ends.
pub record BoxesData : Type 0 where
  pub slots : List (ℕ × Place)
  pub ended : List (ℕ × Settlement)

-- where the monitor of a number is
abbrev pub place_at : ℕ → List (ℕ × Place) → Option Place
place_at number slots = lookup (is_at (nat_cmp number)) slots

-- the monitor of a number that is here
abbrev pub held_at : ℕ → List (ℕ × Place) → Option Held
held_at number slots = option_and_then held_of (place_at number slots)

-- what is known of the monitor of a number that is out
abbrev pub away_at : ℕ → List (ℕ × Place) → Option Away
away_at number slots = option_and_then away_of (place_at number slots)

-- the watch of the monitor that is attached under a number
abbrev pub attached_watch : ℕ → BoxesData → Option Watch
attached_watch number boxes = option_and_then watch_of_place (place_at number boxes.slots)

-- under which ticket the monitor of a number is out, and with which watch it left
abbrev pub departed : ℕ → BoxesData → Option (ℕ × Watch)
departed number boxes = option_and_then departure (place_at number boxes.slots)

-- Each that is out left with the watch that it is to have, but for the limit.
pub record AreKept (slots : List (ℕ × Place)) : Type 0 where
  pub each : All IsKept (values_of slots)

-- The numbers rise, and each that is out left with the watch that it is to have, but for the limit.
pub record IsBoxes (boxes : BoxesData) : Type 0 where
  pub rises : IsStrictlySortedBy nat_cmp (keys_of boxes.slots)
  pub kept : AreKept boxes.slots

-- with another place of a number
abbrev pub placed_at : ℕ → Place → BoxesData → BoxesData
placed_at number place boxes = record boxes { slots = set_value (is_at (nat_cmp number)) boxes.slots place }

-- without the number
abbrev pub without : ℕ → BoxesData → BoxesData
without number boxes = record boxes { slots = remove_entry (is_at (nat_cmp number)) boxes.slots }

-- what a monitor tells that is closed with an edit
abbrev pub told : Held → ℕ → Settlement
told held edit = record { watch = held.watch; closed_at = edit }

-- The monitor of a number is gone, and what it told stands last.
abbrev pub ended_at : ℕ → Held → ℕ → BoxesData → BoxesData
ended_at number held edit boxes = record { slots = remove_entry (is_at (nat_cmp number)) boxes.slots; ended = boxes.ended ++ (number, told held edit) ∷ [] }

-- a monitor comes
abbrev pub attached_at : ℕ → Held → BoxesData → BoxesData
attached_at number held boxes = record boxes { slots = insert_entry nat_cmp boxes.slots number (Here held) }

-- the one that is here goes, as if it had not come
abbrev pub given_back_at : ℕ → BoxesData → BoxesData
given_back_at number boxes = option_map_or (λ _. without number boxes) (held_at number boxes.slots) boxes

-- a monitor gets another limit, if there is one
abbrev pub retuned_at : ℕ → ℕ → BoxesData → BoxesData
retuned_at number limit boxes = option_map_or (λ place. placed_at number (place_tuned limit place) boxes) (place_at number boxes.slots) boxes

-- a monitor is detached: one that is here ends, and one that is out is to end as it comes back
abbrev pub detached_from : Option Place → ℕ → ℕ → BoxesData → BoxesData
detached_from None number edit boxes = boxes
detached_from (Some (Here held)) number edit boxes = ended_at number held edit boxes
detached_from (Some (Out away)) number edit boxes = placed_at number (Out (record away { closing = Some edit })) boxes

abbrev pub detached_at : ℕ → ℕ → BoxesData → BoxesData
detached_at number edit boxes = detached_from (place_at number boxes.slots) number edit boxes

-- the monitor that is here goes out under a ticket
abbrev pub taken_at : ℕ → ℕ → BoxesData → BoxesData
taken_at number ticket boxes = option_map_or (λ held. placed_at number (Out (leaving ticket held)) boxes) (held_at number boxes.slots) boxes

-- a monitor that was out is here, or ends where it was detached meanwhile
abbrev pub back_with : Option ℕ → ℕ → Held → BoxesData → BoxesData
back_with None number held boxes = placed_at number (Here held) boxes
back_with (Some edit) number held boxes = ended_at number held edit boxes

-- it comes back with the last limit
abbrev pub brought_back : ℕ → Held → BoxesData → BoxesData
brought_back number held boxes = option_map_or (λ (away : Away). back_with away.closing number (tuned (limit_of away.watch) held) boxes) (away_at number boxes.slots) boxes

-- the monitors that are here
abbrev pub here_in : List (ℕ × Place) → List (ℕ × Held)
here_in [] = []
here_in (e ∷ es) = option_map_or (λ held. (e.0, held) ∷ here_in es) (held_of e.1) (here_in es)

-- the first number that is out
abbrev pub first_out : List (ℕ × Place) → Option ℕ
first_out [] = None
first_out (e ∷ es) = option_map_or (λ _. Some e.0) (away_of e.1) (first_out es)
