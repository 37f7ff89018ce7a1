-- Windows of monitors that go out with their monitor to be checked, and come back.
use Rattle.std.specs.Prelude.{◌≡◌, ◌⊎◌, None, Some, List}
use Rattle.tl_beats.specs.declared.Row.{Row}
use Rattle.tl_edits.specs.Inputs.{InputData, watch_at}
use Rattle.tl_pieces.specs.declared.key.PieceKey.{PieceKey}
use Rattle.tl_pieces.specs.Keys.{change}
use Rattle.tl_pieces.specs.Pieces.{Pass, entry_for, with_live, with_pieces, IsWantedAt}
use Rattle.tl_check.specs.Captured.{watched_beats}
use Rattle.tl_board.specs.Spans.{standing}
use Rattle.tl_board.specs.Windows.{with_checked}
use Rattle.tl_capture.specs.Windows.{beats_in}
use Rattle.tl_board.specs.declared.tally.Tally.{Tally}
use Rattle.tl_board.specs.Tally.{SameTally}
use Rattle.tl_board.specs.WatchTasks.{WatchWindowData, WatchTaskData}
use Rattle.tl_board.specs.Watches.{WatchesData}

-- The window has what stands for it: the watch of its monitor, its beats on the link that this names, and what it is to start from.
pub record IsWatchTaskFor (watches : WatchesData) (key : PieceKey) (task : WatchWindowData) : Type 0 where
  pub number : task.number ≡ key.owner
  pub window : task.window ≡ key.window
  pub watch : watch_at key.owner (standing watches.spans).monitors ≡ Some task.watch
  pub beats : task.beats ≡ beats_in key.window (watched_beats (standing watches.spans).topo (standing watches.spans).fragments task.watch)
  pub entry : entry_for key watches.board ≡ Some task.entry

-- What the task was made of is what stands: the monitor of its number has the watch that its own holds, and its beats are those that
-- lie in its window on the link that this names.
pub record StandsInWatch (now : InputData) (task : WatchTaskData) : Type 0 where
  pub watch : watch_at task.number now.monitors ≡ Some task.held.watch
  pub beats : task.beats ≡ beats_in task.window (watched_beats now.topo now.fragments task.held.watch)

-- Where the window is wanted, it gets the result; else the one that it has stays. Its ticket ends. All else stays.
abbrev pub HandsInWatch : WatchesData → PieceKey → Pass Tally (List Row) → WatchesData → Type 0
HandsInWatch old key result new =
    (IsWantedAt SameTally old.board key × (new ≡ record old { board = with_pieces old.board (change key (with_checked result) old.board.pieces) }))
    ⊎ ((IsWantedAt SameTally old.board key → ⊥) × (new ≡ record old { board = with_pieces old.board (change key (with_live None) old.board.pieces) }))
