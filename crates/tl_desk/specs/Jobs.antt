-- What each call on jobs makes of a desk.
use Rattle.std.specs.Prelude.{ℕ, ◌≡◌, ◌<◌, ◌≤◌, ◌+◌, ◌⊎◌, List, Option, None, Some, length, is_some, true}
use Rattle.std.specs.Option.{option_map}
use Rattle.std.specs.Ordering.{nat_cmp}
use Rattle.std.specs.BTreeMap.{insert_entry, is_at}
use Rattle.std.specs.Map.{remove_entry}
use Rattle.tl_beats.specs.declared.Row.{Row}
use Rattle.tl_monitor.specs.Boxes.{BoxesData, held_at, away_at, taken_at, brought_back}
use Rattle.tl_monitor.specs.declared.away.Away.{Away}
use Rattle.tl_desk.specs.JobData.{JobData, DoneData, IsDone, piece_of}
use Rattle.tl_desk.specs.MonitorJobs.{MonitorJobData, MonitorDoneData, IsMonitorDone, monitor_piece}
use Rattle.tl_desk.specs.declared.job.Job.{Job}
use Rattle.tl_desk.specs.declared.job.Job.TheVariants as a_job
use Rattle.tl_desk.specs.declared.job.Done.{Done}
use Rattle.tl_desk.specs.declared.job.Done.TheVariants as a_done
use Rattle.tl_desk.specs.declared.job.HandIn.{HandIn}
use Rattle.tl_desk.specs.declared.job.HandIn.TheVariants as answer
use Rattle.tl_pieces.specs.declared.key.PieceKey.{PieceKey}
use Rattle.tl_pieces.specs.Keys.{change}
use Rattle.tl_pieces.specs.Pieces.{Board, piece_at, live_of, with_live, with_pieces, IsFirst, IsFree, IsFirstFree}
use Rattle.tl_check.specs.States.{SameSpan}
use Rattle.tl_board.specs.Spans.{SpansData}
use Rattle.tl_board.specs.Tickets.{IsTaskFor, StandsIn, HandsIn}
use Rattle.tl_board.specs.Windows.{key_of}
use Rattle.tl_desk.specs.declared.piece.Piece.{Piece}
use Rattle.tl_desk.specs.TicketData.{TicketsData, IsOutFor, most_tickets}
use Rattle.tl_board.specs.declared.tally.Tally.{Tally}
use Rattle.tl_board.specs.Outside.{IsWatchTaskFor, StandsInWatch, HandsInWatch}
use Rattle.tl_board.specs.Tally.{SameTally}
use Rattle.tl_board.specs.WatchTasks.{without_monitor}
use Rattle.tl_board.specs.Watches.{WatchesData}
use Rattle.tl_desk.specs.Core.{Core, log_of, standing}
use Rattle.tl_desk.specs.Tickets.{window_of, watch_window_of}

-- a window with this live ticket, or with none; all else stays
abbrev pub marked : PieceKey → Option ℕ → SpansData → SpansData
marked key live spans = record spans { board = with_pieces spans.board (change key (with_live live) spans.board.pieces) }

abbrev pub marked_watch : PieceKey → Option ℕ → WatchesData → WatchesData
marked_watch key live windows = record windows { board = with_pieces windows.board (change key (with_live live) windows.board.pieces) }

-- a desk with these windows of managers
abbrev pub with_spans : SpansData → Core → Core
with_spans spans core = record core { windows = record core.windows { spans = spans } }

-- the tickets without one
abbrev pub ended : ℕ → TicketsData → TicketsData
ended ticket tickets = record tickets { out = remove_entry (is_at (nat_cmp ticket)) tickets.out }

-- a ticket that is given for a window after so many edits
abbrev pub given : Piece → ℕ → TicketsData → TicketsData
given piece edits tickets = record { out = insert_entry nat_cmp tickets.out (tickets.last + 1) (record { piece = piece; edits = edits }); last = tickets.last + 1 }

-- the key of a job's window
abbrev pub key_for : JobData → PieceKey
key_for job = key_of job.task.owner job.task.window

abbrev pub watch_key_for : MonitorJobData → PieceKey
watch_key_for job = key_of job.task.number job.task.window

-- The ticket is the window's live one.
abbrev pub IsLiveAt : SpansData → PieceKey → ℕ → Type 0
IsLiveAt spans key ticket = live_of (piece_at key spans.board) ≡ Some ticket

abbrev pub IsLiveAtWatch : WatchesData → PieceKey → ℕ → Type 0
IsLiveAtWatch windows key ticket = live_of (piece_at key windows.board) ≡ Some ticket

-- The ticket is the live one of some window.
abbrev pub IsLive : Core → ℕ → Type 0
IsLive core ticket = (key : PieceKey) × (IsLiveAt core.windows.spans key ticket ⊎ IsLiveAtWatch core.windows key ticket)

-- It is the lowest live ticket; or none is live.
abbrev pub IsOldestLive : Core → Option ℕ → Type 0
IsOldestLive core None = (ticket : ℕ) → IsLive core ticket → ⊥
IsOldestLive core (Some oldest) = IsLive core oldest × ((ticket : ℕ) → IsLive core ticket → oldest ≤ ticket)

-- The monitor of a number is here.
abbrev pub IsHere : BoxesData → ℕ → Type 0
IsHere boxes number = is_some (held_at number boxes.slots) ≡ true

-- The first window of a monitor that is here, which is wanted and has no live ticket.
abbrev pub IsFirstFreeHere : BoxesData → Board Tally (List Row) → Option PieceKey → Type 0
IsFirstFreeHere boxes board found = IsFirst (λ l k p. IsHere boxes k.owner × IsFree SameTally board.openings l k p) None board.pieces found

abbrev pub IsFirstFreeWatch : Core → Option PieceKey → Type 0
IsFirstFreeWatch core found = IsFirstFreeHere core.boxes core.windows.board found

-- The first window of a manager that is wanted and has no live ticket goes out, under the next ticket, which is live.
pub record Takes (old : Core) (ticket : ℕ) (key : PieceKey) (new : Core) : Type 0 where
  pub first : IsFirstFree SameSpan old.windows.spans.board (Some key)
  pub few : old.tickets.last < most_tickets
  pub next : ticket ≡ old.tickets.last + 1
  pub rest : new ≡ record (with_spans (marked key (Some ticket) old.windows.spans) old) { tickets = given (window_of key) (length (log_of old).edits) old.tickets }

-- Where there is none, the first window of a monitor that is here goes out so, with the monitor.
pub record TakesWatch (old : Core) (ticket : ℕ) (key : PieceKey) (new : Core) : Type 0 where
  pub none : IsFirstFree SameSpan old.windows.spans.board None
  pub first : IsFirstFreeWatch old (Some key)
  pub few : old.tickets.last < most_tickets
  pub next : ticket ≡ old.tickets.last + 1
  pub rest : new ≡ record {
    windows = marked_watch key (Some ticket) old.windows;
    boxes = taken_at key.owner ticket old.boxes;
    reports = old.reports;
    tickets = given (watch_window_of key) (length (log_of old).edits) old.tickets;
  }

-- It goes out as this job, with what stands for it, and the monitor is as it was here.
abbrev pub TakesJob : Core → MonitorJobData → Core → Type 0
TakesJob old job new = TakesWatch old job.ticket (watch_key_for job) new × IsWatchTaskFor old.windows (watch_key_for job) (without_monitor job.task)
    × (held_at job.task.number old.boxes.slots ≡ Some job.task.held)

-- What a take gives: nothing exactly where no window is wanted that has no live ticket, of a manager or of a monitor that is here, and
-- then all stays; else the first one with what stands for it, and of a monitor with the monitor itself, as it was here.
abbrev pub Gives : {M : Type 0} → Core → Option (Job M) → Core → Type 0
Gives old None new = IsFirstFree SameSpan old.windows.spans.board None × IsFirstFreeWatch old None × (new ≡ old)
Gives old (Some (a_job.Manager j)) new = Takes old j.ticket (key_for j) new × IsTaskFor old.windows.spans (key_for j) j.task
Gives old (Some (a_job.Monitor j)) new = TakesWatch old j.ticket (watch_key_for j) new × IsWatchTaskFor old.windows (watch_key_for j) (without_monitor j.task)
    × (held_at j.task.number old.boxes.slots ≡ Some j.task.held)

-- Some window of a manager, or of a monitor that is here, is wanted and has no live ticket.
abbrev pub HasFree : Core → Type 0
HasFree core = ((key : PieceKey) × IsFirstFree SameSpan core.windows.spans.board (Some key)) ⊎ ((key : PieceKey) × IsFirstFreeWatch core (Some key))

-- The ticket is the live one of the job's window, and what was checked is what stands.
abbrev pub IsFresh : Core → JobData → Type 0
IsFresh core job = IsLiveAt core.windows.spans (key_for job) job.ticket × StandsIn (standing core) job.task

abbrev pub IsFreshWatch : Core → MonitorJobData → Type 0
IsFreshWatch core job = IsLiveAtWatch core.windows (watch_key_for job) job.ticket × StandsInWatch (standing core) job.task

-- The ticket is out for the job's window, and the job's monitor has the watch with which that of its number left.
pub record IsOwn (core : Core) (job : MonitorJobData) : Type 0 where
  pub out : IsOutFor job.ticket (monitor_piece job) core.tickets.out
  pub watch : option_map (λ (a : Away). a.taken) (away_at job.task.number core.boxes.slots) ≡ Some job.task.held.watch

-- If the ticket is the window's live one, the window has none any more. All else stays.
abbrev pub Unmarks : SpansData → PieceKey → ℕ → SpansData → Type 0
Unmarks old key ticket new = (IsLiveAt old key ticket × (new ≡ marked key None old)) ⊎ ((IsLiveAt old key ticket → ⊥) × (new ≡ old))

abbrev pub UnmarksWatch : WatchesData → PieceKey → ℕ → WatchesData → Type 0
UnmarksWatch old key ticket new = (IsLiveAtWatch old key ticket × (new ≡ marked_watch key None old)) ⊎ ((IsLiveAtWatch old key ticket → ⊥) × (new ≡ old))

-- A job comes back checked whose ticket is out and live, and what was checked is what stands: where its window is wanted it gets the
-- result. The ticket ends.
pub record Accepts (old : Core) (done : DoneData) (new : Core) : Type 0 where
  pub out : IsOutFor done.job.ticket (piece_of done.job) old.tickets.out
  pub fresh : IsFresh old done.job
  pub checked : IsDone done
  pub spans : HandsIn old.windows.spans (key_for done.job) done.result new.windows.spans
  pub rest : new ≡ record (with_spans new.windows.spans old) { tickets = ended done.job.ticket old.tickets }

-- The same of a monitor's window. The monitor is here again, or it ends where it was detached meanwhile.
pub record AcceptsWatch (old : Core) (done : MonitorDoneData) (new : Core) : Type 0 where
  pub own : IsOwn old done.job
  pub fresh : IsFreshWatch old done.job
  pub checked : IsMonitorDone done
  pub windows : HandsInWatch old.windows (watch_key_for done.job) done.result new.windows
  pub rest : new ≡ record {
    windows = new.windows;
    boxes = brought_back done.job.task.number done.job.task.held old.boxes;
    reports = old.reports;
    tickets = ended done.job.ticket old.tickets;
  }

-- A job comes back whose ticket is out: it ends, and nothing is stored.
pub record Ends (old : Core) (job : JobData) (new : Core) : Type 0 where
  pub out : IsOutFor job.ticket (piece_of job) old.tickets.out
  pub spans : Unmarks old.windows.spans (key_for job) job.ticket new.windows.spans
  pub rest : new ≡ record (with_spans new.windows.spans old) { tickets = ended job.ticket old.tickets }

-- The same of a monitor's window. The monitor is here again, or it ends where it was detached meanwhile.
pub record EndsWatch (old : Core) (job : MonitorJobData) (new : Core) : Type 0 where
  pub own : IsOwn old job
  pub windows : UnmarksWatch old.windows (watch_key_for job) job.ticket new.windows
  pub rest : new ≡ record {
    windows = new.windows;
    boxes = brought_back job.task.number job.task.held old.boxes;
    reports = old.reports;
    tickets = ended job.ticket old.tickets;
  }

-- What a job that is handed in comes to: it is taken exactly where its ticket is out and live and what was checked is what stands, and it
-- comes back exactly where its ticket isn't out for its window, or its monitor isn't the one that left.
abbrev pub HandsBack : {M : Type 0} → Core → Done M → HandIn M → Core → Type 0
HandsBack old (a_done.Manager d) answer.Taken new = Accepts old d new
HandsBack old (a_done.Manager d) answer.Void new = (IsFresh old d.job → ⊥) × Ends old d.job new
HandsBack old (a_done.Manager d) (answer.Stranger same) new = (IsOutFor d.job.ticket (piece_of d.job) old.tickets.out → ⊥) × (same ≡ a_done.Manager d) × (new ≡ old)
HandsBack old (a_done.Monitor d) answer.Taken new = AcceptsWatch old d new
HandsBack old (a_done.Monitor d) answer.Void new = (IsFreshWatch old d.job → ⊥) × EndsWatch old d.job new
HandsBack old (a_done.Monitor d) (answer.Stranger same) new = (IsOwn old d.job → ⊥) × (same ≡ a_done.Monitor d) × (new ≡ old)

-- The desk takes the job back: its ticket is out for its window, and of a monitor's window its monitor has the watch with which it left.
abbrev pub IsOutHere : {M : Type 0} → Core → Job M → Type 0
IsOutHere core (a_job.Manager j) = IsOutFor j.ticket (piece_of j) core.tickets.out
IsOutHere core (a_job.Monitor j) = IsOwn core j

-- A job comes back unchecked that is out here: its ticket ends, and nothing is stored.
abbrev pub TakesBack : {M : Type 0} → Core → Job M → Core → Type 0
TakesBack old (a_job.Manager j) new = Ends old j new
TakesBack old (a_job.Monitor j) new = EndsWatch old j new

-- That ticket, and no other, is live no more. It stays out.
pub record Recalls (old : Core) (ticket : ℕ) (new : Core) : Type 0 where
  pub key : PieceKey
  pub live : IsLiveAt old.windows.spans key ticket
  pub rest : new ≡ with_spans (marked key None old.windows.spans) old

pub record RecallsWatch (old : Core) (ticket : ℕ) (new : Core) : Type 0 where
  pub key : PieceKey
  pub live : IsLiveAtWatch old.windows key ticket
  pub rest : new ≡ record old { windows = marked_watch key None old.windows }
