-- Windows of monitors that are to be checked, as plain data, and their results.
use Rattle.std.specs.Prelude.{ℕ, ◌≡◌, ◌⊎◌, ◌++◌, List}
use Rattle.std.specs.List.Sorted.{IsStrictlySortedBy}
use Rattle.tl_topology.specs.Topology.{Topology}
use Rattle.tl_beats.specs.declared.Placed.{Placed}
use Rattle.tl_beats.specs.declared.Row.{Row}
use Rattle.tl_beats.specs.declared.watch.Watch.{Watch}
use Rattle.tl_definitions.specs.Passes.{IsPass, left_after}
use Rattle.tl_definitions.specs.Positions.{Recorded, position_order}
use Rattle.tl_definitions.specs.Tallies.{watching, kept_tally, AreOfOneLink}
use Rattle.tl_monitor.specs.Held.{Held}
use Rattle.tl_pieces.specs.Pieces.{Pass}
use Rattle.tl_check.specs.Captured.{watched_beats}
use Rattle.tl_capture.specs.Windows.{beats_in}
use Rattle.tl_board.specs.declared.tally.Tally.{Tally}

-- A window of a monitor without the monitor: the monitor's number and watch, its beats of the window, and the tally that they are
-- judged from.
pub record WatchWindowData : Type 0 where
  pub number : ℕ
  pub window : ℕ
  pub watch : Watch
  pub beats : List Placed
  pub entry : Tally

-- A window of a monitor with all that its check asks, the monitor itself among it.
pub record WatchTaskData : Type 0 where
  pub number : ℕ
  pub window : ℕ
  pub beats : List Placed
  pub entry : Tally
  pub held : Held

-- The tally is one of the watch.
abbrev pub IsTallyOf : Watch → Tally → Type 0
IsTallyOf w tally = kept_tally w tally.count ≡ tally.count

-- What a check asks of its beats: they are of one link, and in the order of positions, each at a place of its own.
pub record AreWatched (beats : List Placed) : Type 0 where
  pub link : AreOfOneLink beats
  pub rises : IsStrictlySortedBy position_order beats

-- What each window keeps.
pub record IsWatchWindow (task : WatchWindowData) : Type 0 where
  pub beats : AreWatched task.beats
  pub entry : IsTallyOf task.watch task.entry

-- What each task keeps.
pub record IsWatchTask (task : WatchTaskData) : Type 0 where
  pub beats : AreWatched task.beats
  pub entry : IsTallyOf task.held.watch task.entry

-- The window with a monitor, and a task without its monitor.
abbrev pub with_monitor : WatchWindowData → Held → WatchTaskData
with_monitor task held = record { number = task.number; window = task.window; beats = task.beats; entry = task.entry; held = held }

abbrev pub without_monitor : WatchTaskData → WatchWindowData
without_monitor task = record { number = task.number; window = task.window; watch = task.held.watch; beats = task.beats; entry = task.entry }

-- The task is the same, and its monitor holds the same but for the tally.
abbrev pub SameButTally : WatchTaskData → WatchTaskData → Type 0
SameButTally old new = new ≡ record old { held = record old.held { tally = new.held.tally } }

-- A monitor has this tally amid these beats: that after the first of them, none or all of them at most, from an entry.
pub record IsAmid (number : ℕ) (w : Watch) (entry : Tally) (beats : List Placed) (tally : ℕ) : Type 0 where
  pub seen : List Placed
  pub rest : List Placed
  pub parts : beats ≡ seen ++ rest
  pub left : tally ≡ left_after (watching number w) (kept_tally w entry.count) seen

-- The monitor of a task has the tally that it had, or one amid the task's beats, from the task's entry.
abbrev pub LeavesTally : WatchTaskData → ℕ → Type 0
LeavesTally task tally = (tally ≡ task.held.tally) ⊎ IsAmid task.number task.held.watch task.entry task.beats tally

-- The result is the pass of the task's beats by the watch of its monitor, from its own entry.
pub record IsWatchPassOf (task : WatchTaskData) (result : Pass Tally (List Row)) : Type 0 where
  pub begins : IsTallyOf task.held.watch result.entry
  pub ends : IsTallyOf task.held.watch result.exit
  pub pass : IsPass (watching task.number task.held.watch) (record { entry = result.entry.count; beats = task.beats; exit = result.exit.count; rows = result.rows })

-- What the task was made of stands: this is its monitor's watch, and its beats are those that lie in its window on the link that
-- the watch names.
pub record IsWatchCurrent (topo : Topology) (fragments : List Recorded) (w : Watch) (task : WatchTaskData) : Type 0 where
  pub watch : task.held.watch ≡ w
  pub beats : task.beats ≡ beats_in task.window (watched_beats topo fragments w)
