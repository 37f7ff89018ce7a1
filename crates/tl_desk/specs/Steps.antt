-- What each call makes of a desk.
use Rattle.std.specs.Prelude.{ℕ, ◌≡◌, ◌<◌, ◌+◌, ◌⊎◌, Bool, [], ◌∷◌, ◌++◌, Option, length, min, List, None, Some, true, false, is_some}
use Rattle.tl_beats.specs.declared.Row.{Row}
use Rattle.tl_beats.specs.declared.watch.Watch.{Watch}
use Rattle.tl_monitor.specs.Boxes.{BoxesData, place_at, held_at, away_at, attached_at, retuned_at, detached_at}
use Rattle.tl_monitor.specs.Places.{Place, Here, Out}
use Rattle.tl_definitions.specs.Report.{IsReport}
use Rattle.tl_edits.specs.Edits.{AnEdit, plain_change, add, replace, withdraw, clear_link, set_region, remove_region, attach, retune, detach}
use Rattle.tl_edits.specs.Inputs.{refusal}
use Rattle.tl_desk.specs.JobData.{JobData, DoneData, piece_of}
use Rattle.tl_desk.specs.MonitorJobs.{MonitorJobData, MonitorDoneData, monitor_piece}
use Rattle.tl_desk.specs.Works.{ticket_of, window_of, done_ticket, done_window}
use Rattle.tl_desk.specs.declared.job.Job.{Job}
use Rattle.tl_desk.specs.declared.job.Job.TheVariants as a_job
use Rattle.tl_desk.specs.declared.job.Done.{Done}
use Rattle.tl_desk.specs.declared.job.Done.TheVariants as a_done
use Rattle.tl_desk.specs.declared.job.HandIn.{HandIn}
use Rattle.tl_desk.specs.declared.job.HandIn.TheVariants as answer
use Rattle.tl_monitor.specs.Held.{Held}
use Rattle.std.specs.Option.{option_map}
use Rattle.tl_pieces.specs.declared.key.PieceKey.{PieceKey}
use Rattle.tl_pieces.specs.Pieces.{Board, Pass, IsFirst, IsWanted, entry_for}
use Rattle.tl_check.specs.Captured.{captures_after}
use Rattle.tl_check.specs.Output.{ReportData}
use Rattle.tl_check.specs.States.{SameSpan}
use Rattle.tl_check.specs.declared.state.SpanState.{SpanState}
use Rattle.tl_board.specs.Recheck.{Rechecks, ChecksSome}
use Rattle.tl_board.specs.Windows.{key_of}
use Rattle.tl_desk.specs.declared.piece.Piece.{Piece}
use Rattle.tl_desk.specs.declared.piece.Piece.TheVariants as piece
use Rattle.tl_board.specs.Accepting.{EditsBoth}
use Rattle.tl_board.specs.declared.tally.Tally.{Tally}
use Rattle.tl_board.specs.Tally.{SameTally}
use Rattle.tl_board.specs.Watches.{WatchesData, IsAmidWindow}
use Rattle.tl_desk.specs.Core.{Core, AllSettled, most_versions, log_of, standing}
use Rattle.tl_desk.specs.Jobs.{IsFresh, IsFreshWatch, Takes, TakesWatch, Accepts, AcceptsWatch, Ends, EndsWatch, Recalls, RecallsWatch}
use Rattle.tl_desk.specs.declared.edits.BoxChange.{BoxChange}
use Rattle.tl_desk.specs.declared.edits.BoxChange.TheVariants as change
use Rattle.tl_desk.specs.declared.fault.RecheckFault.{RecheckFault}
use Rattle.tl_desk.specs.declared.fault.RecheckFault.TheVariants as refused
use Rattle.tl_desk.specs.declared.call.Call.{Call}
use Rattle.tl_desk.specs.declared.call.Call.TheVariants as call
use Rattle.tl_desk.specs.declared.call.Start.{Start}
use Rattle.tl_desk.specs.declared.call.Start.TheVariants as start
use Rattle.tl_desk.specs.declared.call.Outcome.{Outcome}
use Rattle.tl_desk.specs.declared.call.Outcome.TheVariants as outcome

-- What a change of this number makes of the monitors: a retune reaches its monitor, and a detach ends its own, at once where it is here,
-- else as it comes back.
abbrev pub boxes_after : AnEdit → ℕ → BoxesData → BoxesData
boxes_after (retune monitor limit) number boxes = retuned_at monitor limit boxes
boxes_after (detach monitor) number boxes = detached_at monitor number boxes
boxes_after (add f) number boxes = boxes
boxes_after (replace f) number boxes = boxes
boxes_after (withdraw name n) number boxes = boxes
boxes_after (clear_link name) number boxes = boxes
boxes_after (set_region name n area) number boxes = boxes
boxes_after (remove_region name n) number boxes = boxes
boxes_after (attach monitor w) number boxes = boxes

-- the same, as it is found of a change
abbrev pub boxes_changed : BoxChange → ℕ → BoxesData → BoxesData
boxes_changed change.Nothing number boxes = boxes
boxes_changed (change.Retune monitor limit) number boxes = retuned_at monitor limit boxes
boxes_changed (change.Detach monitor) number boxes = detached_at monitor number boxes

-- An edit that nothing refuses stands at the log's end and has the number of edits; of the windows those that it touches lose their results.
pub record Edits (old : Core) (e : AnEdit) (number : ℕ) (new : Core) : Type 0 where
  pub accepted : refusal (length (log_of old).edits) (standing old) e ≡ None
  pub last : number ≡ length (log_of new).edits
  pub windows : EditsBoth old.windows e new.windows
  pub reports : new.reports ≡ old.reports
  pub tickets : new.tickets ≡ old.tickets

-- A monitor with this watch has come in under its number.
abbrev pub Attaches : ℕ → Watch → BoxesData → BoxesData → Type 0
Attaches monitor w old new = (held : Held) × (held.watch ≡ w) × (new ≡ attached_at monitor held old)

-- The next report is published, where there is room for one and all windows are settled: it speaks of all edits.
pub record Publishes (old : Core) (version : ℕ) (new : Core) : Type 0 where
  pub room : length old.reports < most_versions
  pub next : version ≡ length old.reports + 1
  pub settled : AllSettled old
  pub report : ReportData
  pub is : report.version ≡ version
  pub edit : report.edit ≡ length (log_of old).edits
  pub rows : IsReport (captures_after (standing old)) report.rows
  pub rest : new ≡ record old { reports = old.reports ++ report ∷ [] }

-- a place, but for the tally of a monitor that is here
abbrev pub without_tally : Place → Place
without_tally (Here held) = Here (record held { tally = 0 })
without_tally (Out away) = Out away

-- The monitors are the same and where they were, but for the tallies of those that are here.
pub record KeepsBoxes (old new : BoxesData) : Type 0 where
  pub ended : new.ended ≡ old.ended
  pub places : (number : ℕ) → option_map without_tally (place_at number new.slots) ≡ option_map without_tally (place_at number old.slots)

-- The monitor of a number alone may have another tally, and that is such a one.
pub record LeavesOne (number : ℕ) (Is : Held → ℕ → Type 0) (old new : BoxesData) : Type 0 where
  pub here : (was now : Held) → held_at number old.slots ≡ Some was → held_at number new.slots ≡ Some now → Is was now.tally
  pub others : (other : ℕ) → (number ≡ other → ⊥) → place_at other new.slots ≡ place_at other old.slots

-- Each monitor that is here has the tally that it had, or one amid the beats of one of its windows, from what this is to start from.
pub record LeavesTallies (windows : WatchesData) (old new : BoxesData) : Type 0 where
  pub each : (number : ℕ) (was now : Held) → held_at number old.slots ≡ Some was → held_at number new.slots ≡ Some now
      → (now.tally ≡ was.tally) ⊎ ((window : ℕ) × IsAmidWindow windows (key_of number window) was.watch now.tally)

-- The monitor of a number is out.
abbrev pub IsOut : BoxesData → ℕ → Type 0
IsOut boxes number = is_some (away_at number boxes.slots) ≡ true

-- The first window that is wanted of a monitor that is out.
abbrev pub IsFirstOutOf : BoxesData → Board Tally (List Row) → Option PieceKey → Type 0
IsFirstOutOf boxes board found = IsFirst (λ l k p. IsOut boxes k.owner × IsWanted SameTally board.openings l k p) None board.pieces found

abbrev pub IsFirstOut : Core → Option PieceKey → Type 0
IsFirstOut core found = IsFirstOutOf core.boxes core.windows.board found

-- No window that is wanted is of a monitor that is out.
abbrev pub NoneIsOut : BoxesData → Board Tally (List Row) → Type 0
NoneIsOut boxes board = IsFirstOutOf boxes board None

-- Exactly the windows that had no result, or one that did not begin with what stands before it, are checked, and their tickets end; all
-- are settled. They are counted, up to the greatest 64-bit number.
pub record RechecksAll (old : Core) (count : ℕ) (new : Core) : Type 0 where
  pub log : log_of new ≡ log_of old
  pub of_managers : ℕ
  pub managers : Rechecks SameSpan old.windows.spans.board new.windows.spans.board of_managers
  pub of_monitors : ℕ
  pub monitors : Rechecks SameTally old.windows.board new.windows.board of_monitors
  pub sum : count ≡ min (of_managers + of_monitors) 18446744073709551615
  pub boxes : KeepsBoxes old.boxes new.boxes
  pub reports : new.reports ≡ old.reports
  pub tickets : new.tickets ≡ old.tickets

-- Some of the windows that had no result, or one that did not begin with what stands before it, are checked, and their tickets end; all
-- else stays, but for the tallies of monitors, which are those amid their windows.
pub record RechecksSome (old new : Core) : Type 0 where
  pub log : log_of new ≡ log_of old
  pub managers : ChecksSome SameSpan old.windows.spans.board new.windows.spans.board
  pub monitors : ChecksSome SameTally old.windows.board new.windows.board
  pub boxes : KeepsBoxes old.boxes new.boxes
  pub left : LeavesTallies new.windows old.boxes new.boxes
  pub reports : new.reports ≡ old.reports
  pub tickets : new.tickets ≡ old.tickets

-- Why nothing, or not all, is checked: the first window that is wanted of a monitor that is out is one of this monitor, and nothing has
-- changed; or there is none, and memory was refused.
abbrev pub RefusesRecheck : Core → RecheckFault → Core → Type 0
RefusesRecheck old (refused.BoxOut number) new = ((key : PieceKey) × (key.owner ≡ number) × IsFirstOut old (Some key)) × (new ≡ old)
RefusesRecheck old refused.Memory new = IsFirstOut old None × RechecksSome old new

-- what a job is to be checked from
abbrev pub start_for : {M : Type 0} → Job M → Start
start_for (a_job.Manager job) = start.Manager job.task.entry
start_for (a_job.Monitor job) = start.Monitor job.task.entry

-- the outcome of a window of a manager, of one of a monitor, and of a job that was checked
abbrev pub of_span : Pass SpanState (List Row) → Outcome
of_span result = outcome.Manager result.entry result.exit result.rows

abbrev pub of_watch : Pass Tally (List Row) → Outcome
of_watch result = outcome.Monitor result.entry result.exit result.rows

abbrev pub outcome_for : {M : Type 0} → Done M → Outcome
outcome_for (a_done.Manager done) = of_span done.result
outcome_for (a_done.Monitor done) = of_watch done.result

-- A window goes out under a ticket, to be checked from what stands for that: that of a manager alone, and that of a monitor with its monitor.
abbrev pub TakesPiece : Core → ℕ → Piece → Start → Core → Type 0
TakesPiece old ticket (piece.Manager owner window) from new = Takes old ticket (key_of owner window) new × (option_map start.Manager (entry_for (key_of owner window) old.windows.spans.board) ≡ Some from)
TakesPiece old ticket (piece.Monitor number window) from new = TakesWatch old ticket (key_of number window) new × (option_map start.Monitor (entry_for (key_of number window) old.windows.board) ≡ Some from)

-- The job is that of the ticket and the window, and came to this.
abbrev pub IsSpanBack : ℕ → Piece → Outcome → DoneData → Type 0
IsSpanBack ticket piece found done = (done.job.ticket ≡ ticket) × (piece_of done.job ≡ piece) × (of_span done.result ≡ found)

abbrev pub IsWatchBack : ℕ → Piece → Outcome → MonitorDoneData → Type 0
IsWatchBack ticket piece found done = (done.job.ticket ≡ ticket) × (monitor_piece done.job ≡ piece) × (of_watch done.result ≡ found)

-- A window comes back checked whose ticket is out, with an outcome: whether its result is taken, which is then that very one.
abbrev pub HandsInPiece : Core → ℕ → Piece → Outcome → Bool → Core → Type 0
HandsInPiece old ticket (piece.Manager owner window) found true new = (done : DoneData) × IsSpanBack ticket (piece.Manager owner window) found done × Accepts old done new
HandsInPiece old ticket (piece.Manager owner window) found false new = (done : DoneData) × IsSpanBack ticket (piece.Manager owner window) found done × (IsFresh old done.job → ⊥) × Ends old done.job new
HandsInPiece old ticket (piece.Monitor number window) found true new = (done : MonitorDoneData) × IsWatchBack ticket (piece.Monitor number window) found done × AcceptsWatch old done new
HandsInPiece old ticket (piece.Monitor number window) found false new = (done : MonitorDoneData) × IsWatchBack ticket (piece.Monitor number window) found done × (IsFreshWatch old done.job → ⊥) × EndsWatch old done.job new

-- A window comes back unchecked whose ticket is out.
abbrev pub AbandonsPiece : Core → ℕ → Piece → Core → Type 0
AbandonsPiece old ticket (piece.Manager owner window) new = (job : JobData) × (job.ticket ≡ ticket) × (piece_of job ≡ piece.Manager owner window) × Ends old job new
AbandonsPiece old ticket (piece.Monitor number window) new = (job : MonitorJobData) × (job.ticket ≡ ticket) × (monitor_piece job ≡ piece.Monitor number window) × EndsWatch old job new

abbrev pub Step : Core → Call → Core → Type 0
Step old (call.Edit change number) new = Edits old (plain_change change) number new × (new.boxes ≡ boxes_after (plain_change change) number old.boxes)
Step old (call.Attach monitor w number) new = Edits old (attach monitor w) number new × Attaches monitor w old.boxes new.boxes
Step old (call.Recheck count) new = RechecksAll old count new
Step old (call.Publish version) new = Publishes old version new
Step old (call.Take ticket piece from) new = TakesPiece old ticket piece from new
Step old (call.HandIn ticket piece found taken) new = HandsInPiece old ticket piece found taken new
Step old (call.Abandon ticket piece) new = AbandonsPiece old ticket piece new
Step old (call.Recall ticket) new = Recalls old ticket new ⊎ RecallsWatch old ticket new

-- the calls of a job that goes out, of one that comes back checked, and of one that comes back unchecked
abbrev pub take_of : {M : Type 0} → Job M → Call
take_of job = call.Take (ticket_of job) (window_of job) (start_for job)

abbrev pub hand_in_of : {M : Type 0} → Done M → Bool → Call
hand_in_of done taken = call.HandIn (done_ticket done) (done_window done) (outcome_for done) taken

abbrev pub abandon_of : {M : Type 0} → Job M → Call
abandon_of job = call.Abandon (ticket_of job) (window_of job)

-- The step of a job that was handed in, if it was not a stranger's.
abbrev pub HandInStep : {M : Type 0} → Core → Done M → HandIn M → Core → Type 0
HandInStep old done answer.Taken new = Step old (hand_in_of done true) new
HandInStep old done answer.Void new = Step old (hand_in_of done false) new
HandInStep old done (answer.Stranger same) new = new ≡ old
