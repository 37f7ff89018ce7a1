-- What the monitors told that ended.
use Rattle.std.specs.Prelude.{ℕ, ◌≡◌, ◌≤◌, ◌+◌, ◌⊎◌, true, List, Some, None, length, slice_get, is_some}
use Rattle.std.specs.List.{Contains}
use Rattle.std.specs.Map.{keys_of}
use Rattle.tl_beats.specs.declared.watch.Watch.{Watch}
use Rattle.tl_monitor.specs.Boxes.{BoxesData, place_at, away_at}
use Rattle.tl_monitor.specs.declared.away.Away.{Away}
use Rattle.tl_edits.specs.Inputs.{watch_at, was_attached}
use Rattle.tl_edits.specs.Log.{LogData, inputs_after}
use Rattle.tl_monitor.specs.declared.monitor.Settlement.{Settlement}
use Rattle.tl_desk.specs.Tickets.{left_by}

-- The edit of this number detached the monitor: just before it the monitor had this watch, and after it none.
pub record IsEndOf (log : LogData) (number : ℕ) (w : Watch) (edit : ℕ) : Type 0 where
  pub before : ℕ
  pub next : edit ≡ before + 1
  pub within : edit ≤ length log.edits
  pub had : watch_at number (left_by log before).monitors ≡ Some w
  pub none : watch_at number (left_by log edit).monitors ≡ None

-- The monitor is among those that told what they had at their end.
abbrev pub HasTold : BoxesData → ℕ → Type 0
HasTold boxes number = (at : ℕ) × (e : ℕ × Settlement) × (slice_get boxes.ended at ≡ Some e) × (e.0 ≡ number)

-- Each monitor that ended is neither here nor out, and told once what it had just before the edit that detached it, with that edit's
-- number. One that is out and was detached meanwhile is to end so. None is lost: one that was ever attached is here or out, or has told.
pub record HaveEnded (log : LogData) (boxes : BoxesData) : Type 0 where
  pub gone : (at : ℕ) (e : ℕ × Settlement) → slice_get boxes.ended at ≡ Some e → place_at e.0 boxes.slots ≡ None
  pub known : (at : ℕ) (e : ℕ × Settlement) → slice_get boxes.ended at ≡ Some e → was_attached e.0 (inputs_after log.topo log.edits).monitors ≡ true
  pub once : (at other : ℕ) (e f : ℕ × Settlement) → slice_get boxes.ended at ≡ Some e → slice_get boxes.ended other ≡ Some f → e.0 ≡ f.0 → at ≡ other
  pub told : (at : ℕ) (e : ℕ × Settlement) → slice_get boxes.ended at ≡ Some e → IsEndOf log e.0 e.1.watch e.1.closed_at
  pub closing : (number edit : ℕ) (away : Away) → away_at number boxes.slots ≡ Some away → away.closing ≡ Some edit → IsEndOf log number away.watch edit
  pub all : (number : ℕ) → was_attached number (inputs_after log.topo log.edits).monitors ≡ true → (is_some (place_at number boxes.slots) ≡ true) ⊎ HasTold boxes number

-- The monitor is out, and this edit detached it meanwhile.
abbrev pub IsClosing : LogData → BoxesData → ℕ → Type 0
IsClosing log boxes number = (away : Away) × (edit : ℕ) × (away_at number boxes.slots ≡ Some away) × (away.closing ≡ Some edit) × IsEndOf log number away.watch edit

-- The monitor has ended, and told the watch that it had last and the edit that detached it.
abbrev pub HasEnded : LogData → BoxesData → ℕ → Type 0
HasEnded log boxes number = (at : ℕ) × (e : ℕ × Settlement) × (slice_get boxes.ended at ≡ Some e) × (e.0 ≡ number) × IsEndOf log number e.1.watch e.1.closed_at

-- The monitor is attached, or it is out and is to end, or it has ended.
abbrev pub IsAccountedFor : LogData → BoxesData → ℕ → Type 0
IsAccountedFor log boxes number = (is_some (watch_at number (inputs_after log.topo log.edits).monitors) ≡ true) ⊎ IsClosing log boxes number ⊎ HasEnded log boxes number

-- The monitor had this watch at the end, and told it with the number of the last edit.
abbrev pub IsLastOf : LogData → ℕ → Watch → ℕ → Type 0
IsLastOf log number w edit = (edit ≡ length log.edits) × (watch_at number (inputs_after log.topo log.edits).monitors ≡ Some w)

-- All have ended, and each told once: what it had just before the edit that detached it, with that edit's number, or what it had at the
-- end, with that of the last edit. Those that were attached at the end are among them.
pub record AllHaveEnded (log : LogData) (all : List (ℕ × Settlement)) : Type 0 where
  pub once : (at other : ℕ) (e f : ℕ × Settlement) → slice_get all at ≡ Some e → slice_get all other ≡ Some f → e.0 ≡ f.0 → at ≡ other
  pub told : (at : ℕ) (e : ℕ × Settlement) → slice_get all at ≡ Some e → IsEndOf log e.0 e.1.watch e.1.closed_at ⊎ IsLastOf log e.0 e.1.watch e.1.closed_at
  pub last : (number : ℕ) (w : Watch) → watch_at number (inputs_after log.topo log.edits).monitors ≡ Some w → Contains (keys_of all) number
