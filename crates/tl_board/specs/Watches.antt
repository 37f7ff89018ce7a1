-- The windows of managers and of monitors after a log of edits, as plain data.
use Rattle.std.specs.Prelude.{ℕ, ◌≡◌, List, [], is_some, Some}
use Rattle.std.specs.Option.{option_map_or}
use Rattle.tl_beats.specs.declared.Placed.{Placed}
use Rattle.tl_beats.specs.declared.Row.{Row}
use Rattle.tl_beats.specs.declared.watch.Watch.{Watch}
use Rattle.tl_definitions.specs.Passes.{Judge}
use Rattle.tl_definitions.specs.Tallies.{watching, kept_tally}
use Rattle.tl_definitions.specs.Watching.{IsWatch}
use Rattle.tl_edits.specs.Inputs.{InputData, watch_at}
use Rattle.tl_pieces.specs.declared.key.PieceKey.{PieceKey}
use Rattle.tl_pieces.specs.Keys.{change}
use Rattle.tl_pieces.specs.Pieces.{Board, Pass, opening_of, entry_for, with_pieces}
use Rattle.tl_check.specs.Captured.{watched_beats}
use Rattle.tl_board.specs.Covers.{Covers, IsOfWindow}
use Rattle.tl_board.specs.Spans.{SpansData, standing}
use Rattle.tl_board.specs.Windows.{with_checked}
use Rattle.tl_capture.specs.Windows.{beats_in}
use Rattle.tl_board.specs.declared.tally.Tally.{Tally}
use Rattle.tl_board.specs.WatchTasks.{IsAmid}

-- The log with the windows of managers, and the windows of each monitor that is attached, who is the owner with its number.
pub record WatchesData : Type 0 where
  pub spans : SpansData
  pub board : Board Tally (List Row)

-- The beats of a monitor: those of the link that its watch names. One that isn't attached has none.
abbrev pub beats_for : InputData → ℕ → List Placed
beats_for now number = option_map_or (watched_beats now.topo now.fragments) (watch_at number now.monitors) []

-- A monitor judges by its watch; one that isn't attached finds nothing.
abbrev pub idle : Judge ℕ
idle = record { rows = λ tally p. []; next = λ tally p. tally }

abbrev pub judge_for : InputData → ℕ → Judge ℕ
judge_for now number = option_map_or (watching number) (watch_at number now.monitors) idle

-- The state shows this tally, which is one of the monitor's watch.
pub record ShowsTally (now : InputData) (number : ℕ) (state : Tally) (tally : ℕ) : Type 0 where
  pub shows : state.count ≡ tally
  pub kept : (w : Watch) → watch_at number now.monitors ≡ Some w → kept_tally w tally ≡ tally

-- Before its first beat a monitor has the tally 0.
abbrev pub no_tally : ℕ → ℕ
no_tally number = 0

-- The result is the pass of a window of a monitor by what stands, from its own entry.
abbrev pub IsOfWatch : InputData → ℕ → ℕ → Pass Tally (List Row) → Type 0
IsOfWatch now number window result = IsOfWindow (ShowsTally now) (judge_for now) (beats_for now) number window result

-- The owners are the monitors that are attached, whose watches are such as a program can hold. The pieces are the windows in which
-- the link of a monitor's watch has a beat, and every result that is kept is the pass of its window.
pub record AreWatches (now : InputData) (board : Board Tally (List Row)) : Type 0 where
  pub owners : (number : ℕ) → is_some (opening_of number board.openings) ≡ is_some (watch_at number now.monitors)
  pub fits : (number : ℕ) (w : Watch) → watch_at number now.monitors ≡ Some w → IsWatch w
  pub covered : Covers (ShowsTally now) (judge_for now) (beats_for now) no_tally board

-- A window of a monitor gets its result: the pass of its present beats from what it is to start from. Its ticket ends. All else stays.
pub record ChecksWatch (old : WatchesData) (key : PieceKey) (new : WatchesData) : Type 0 where
  pub result : Pass Tally (List Row)
  pub of_window : IsOfWatch (standing old.spans) key.owner key.window result
  pub entry : entry_for key old.board ≡ Some result.entry
  pub rest : new ≡ record old { board = with_pieces old.board (change key (with_checked result) old.board.pieces) }

-- A monitor with this watch has this tally amid the present beats of one of its windows, from what the window is to start from.
pub record IsAmidWindow (now : WatchesData) (key : PieceKey) (w : Watch) (tally : ℕ) : Type 0 where
  pub entry : Tally
  pub from : entry_for key now.board ≡ Some entry
  pub amid : IsAmid key.owner w entry (beats_in key.window (beats_for (standing now.spans) key.owner)) tally
