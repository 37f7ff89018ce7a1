-- Windows of monitors that are out to be checked, and what comes back, as plain data.
use Rattle.std.specs.Prelude.{ℕ, ◌≡◌, List}
use Rattle.tl_beats.specs.declared.Row.{Row}
use Rattle.tl_pieces.specs.Pieces.{Pass}
use Rattle.tl_desk.specs.declared.piece.Piece.{Piece}
use Rattle.tl_desk.specs.declared.piece.Piece.TheVariants as piece
use Rattle.tl_board.specs.declared.tally.Tally.{Tally}
use Rattle.tl_board.specs.WatchTasks.{WatchTaskData, IsWatchPassOf, SameButTally, LeavesTally}

-- A window that is out with its monitor, with the number of its ticket.
pub record MonitorJobData : Type 0 where
  pub ticket : ℕ
  pub task : WatchTaskData

-- whose window it is
abbrev pub monitor_piece : MonitorJobData → Piece
monitor_piece job = piece.Monitor job.task.number job.task.window

-- A job with its result.
pub record MonitorDoneData : Type 0 where
  pub job : MonitorJobData
  pub result : Pass Tally (List Row)

-- The result is the pass of the job's window, from the tally that it was to be checked from.
pub record IsMonitorDone (done : MonitorDoneData) : Type 0 where
  pub pass : IsWatchPassOf done.job.task done.result
  pub entry : done.result.entry ≡ done.job.task.entry

-- It is the same job, and its monitor holds the same but for the tally, which is that after some first beats of the job, or as it was.
pub record SameJob (job back : MonitorJobData) : Type 0 where
  pub ticket : back.ticket ≡ job.ticket
  pub task : SameButTally job.task back.task
  pub left : LeavesTally job.task back.task.held.tally
