-- Jobs on windows of managers and of monitors.
use Rattle.std.specs.Prelude.{ℕ, ◌≡◌}
use Rattle.tl_desk.specs.JobData.{piece_of, IsDone}
use Rattle.tl_desk.specs.MonitorJobs.{monitor_piece, SameJob, IsMonitorDone}
use Rattle.tl_desk.specs.declared.job.Job.{Job}
use Rattle.tl_desk.specs.declared.job.Job.TheVariants as job
use Rattle.tl_desk.specs.declared.job.Done.{Done}
use Rattle.tl_desk.specs.declared.job.Done.TheVariants as done
use Rattle.tl_desk.specs.declared.piece.Piece.{Piece}

module _ {M : Type 0} where
  -- The number of its ticket, and whose window it is.
  abbrev pub ticket_of : Job M → ℕ
  ticket_of (job.Manager own) = own.ticket
  ticket_of (job.Monitor own) = own.ticket

  abbrev pub window_of : Job M → Piece
  window_of (job.Manager own) = piece_of own
  window_of (job.Monitor own) = monitor_piece own

  -- A job that was checked, without its result.
  abbrev pub job_of : Done M → Job M
  job_of (done.Manager own) = job.Manager own.job
  job_of (done.Monitor own) = job.Monitor own.job

  abbrev pub done_ticket : Done M → ℕ
  done_ticket own = ticket_of (job_of own)

  abbrev pub done_window : Done M → Piece
  done_window own = window_of (job_of own)

  -- The same job comes back; of a window of a monitor the monitor holds the same but for its tally, which is that after some first beats of
  -- the job, or as it was.
  abbrev pub ComesBack : Job M → Job M → Type 0
  ComesBack (job.Manager old) (job.Manager new) = new ≡ old
  ComesBack (job.Monitor old) (job.Monitor new) = SameJob old new
  ComesBack (job.Manager old) (job.Monitor new) = ⊥
  ComesBack (job.Monitor old) (job.Manager new) = ⊥

  abbrev pub IsDoneFrom : Job M → Done M → Type 0
  IsDoneFrom old own = ComesBack old (job_of own)

  -- Its result is the pass of its own window, from what it was to be checked from.
  abbrev pub IsChecked : Done M → Type 0
  IsChecked (done.Manager own) = IsDone own
  IsChecked (done.Monitor own) = IsMonitorDone own
