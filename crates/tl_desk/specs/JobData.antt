-- Windows that are out to be checked, and what comes back, as plain data.
use Rattle.std.specs.Prelude.{ℕ, ◌≡◌, List}
use Rattle.tl_beats.specs.declared.Row.{Row}
use Rattle.tl_pieces.specs.Pieces.{Pass}
use Rattle.tl_check.specs.declared.state.SpanState.{SpanState}
use Rattle.tl_board.specs.Tasks.{TaskData, IsPassOf}
use Rattle.tl_desk.specs.declared.piece.Piece.{Piece}
use Rattle.tl_desk.specs.declared.piece.Piece.TheVariants as piece

-- A window that is out, with the number of its ticket.
pub record JobData : Type 0 where
  pub ticket : ℕ
  pub task : TaskData

-- whose window it is
abbrev pub piece_of : JobData → Piece
piece_of job = piece.Manager job.task.owner job.task.window

-- A job with its result.
pub record DoneData : Type 0 where
  pub job : JobData
  pub result : Pass SpanState (List Row)

-- The result is the pass of the job's window, from the state that it was to be checked from.
pub record IsDone (done : DoneData) : Type 0 where
  pub pass : IsPassOf done.job.task done.result
  pub entry : done.result.entry ≡ done.job.task.entry
