-- What each call makes of desks that show the same.
use Rattle.std.proofs.Common.{◌≡◌, ℕ, ◌⊎◌, inl, inr, true, false, Bool, List, [], ◌∷◌, ◌++◌, Option, Some, None, length, refl, sym, ap, subst, ◌∙◌}
use Rattle.std.specs.Option.{option_map}
use Rattle.tl_beats.specs.declared.Row.{Row}
use Rattle.tl_monitor.specs.Boxes.{BoxesData, away_at, taken_at, brought_back}
use Rattle.tl_monitor.specs.declared.away.Away.{Away}
use Rattle.tl_definitions.specs.Report.{IsReport}
use Rattle.tl_definitions.proofs.ReportLaws.{one_report}
use Rattle.tl_edits.specs.Edits.{AnEdit}
use Rattle.tl_edits.specs.Inputs.{InputData}
use Rattle.tl_edits.specs.Log.{LogData, inputs_after}
use Rattle.tl_desk.specs.JobData.{JobData, DoneData}
use Rattle.tl_desk.specs.MonitorJobs.{MonitorJobData, MonitorDoneData}
use Rattle.tl_desk.specs.Works.{ticket_of}
use Rattle.tl_desk.specs.declared.job.Job.{Job}
use Rattle.tl_desk.specs.declared.job.Job.TheVariants as a_job
use Rattle.tl_desk.specs.declared.job.Done.{Done}
use Rattle.tl_desk.specs.declared.job.Done.TheVariants as a_done
use Rattle.tl_pieces.specs.declared.key.PieceKey.{PieceKey}
use Rattle.tl_pieces.specs.Pieces.{Pass, IsFree, IsFirstFree, piece_at}
use Rattle.tl_check.specs.Captured.{captures_after}
use Rattle.tl_check.specs.Output.{ReportData}
use Rattle.tl_check.specs.States.{SameSpan}
use Rattle.tl_check.specs.declared.state.SpanState.{SpanState}
use Rattle.tl_board.specs.Spans.{SpansData}
use Rattle.tl_board.specs.Tickets.{IsTaskFor, HandsIn}
use Rattle.tl_board.specs.Windows.{key_of}
use Rattle.tl_desk.specs.declared.piece.Piece.{Piece as APiece}
use Rattle.tl_desk.specs.TicketData.{IsOutFor}
use Rattle.tl_board.specs.declared.tally.Tally.{Tally}
use Rattle.tl_board.specs.Outside.{IsWatchTaskFor, HandsInWatch}
use Rattle.tl_board.specs.Tally.{SameTally}
use Rattle.tl_board.specs.WatchTasks.{without_monitor}
use Rattle.tl_board.specs.Watches.{WatchesData, AreWatches}
use Rattle.tl_desk.specs.Alike.{SamePass, SamePiece, HaveSamePieces, HaveSameMonitors, ShowAlike}
use Rattle.tl_desk.specs.Core.{Core, IsDesk, log_of, standing}
use Rattle.tl_desk.specs.Jobs.{Gives, HandsBack, TakesBack, IsHere, IsFirstFreeWatch, Takes, TakesWatch, Accepts, AcceptsWatch, Ends, EndsWatch, Recalls, RecallsWatch, Unmarks, UnmarksWatch, IsOwn, with_spans, marked, marked_watch, key_for, watch_key_for, given, ended}
use Rattle.tl_desk.specs.Plays.{handed_in}
use Rattle.tl_desk.specs.Steps.{Edits, Publishes}
use Rattle.tl_desk.specs.Tickets.{window_of, watch_window_of}
use Rattle.tl_desk.proofs.AlikeBoxes.{here_alike, leave_alike, back_alike}
use Rattle.tl_desk.proofs.AlikeBoards.{OpenAlike, span_then, tally_then, spans_open, watches_open, only_first, edited_log, edited_spans, edited_watches, unmarked_rest, handed_rest}
use Rattle.tl_desk.proofs.PlayAlikePieces.{Listed, listed, lives_alike, entries_alike}
use Rattle.tl_desk.proofs.PlayAlikeBoards.{UnmarksAt, HandsInAt, kept_alike, marked_alike, unmarked_alike, first_there, free_there, free_again, first_free_there, handed_alike}
use Rattle.tl_desk.proofs.PlayAlikeJobs.{span_back, tally_back, tasks_alike, watch_tasks_alike, SameSpanJob, SameWatchJob, JobsAlike, DonesAlike}
use Rattle.tl_desk.proofs.TicketLemmas.{clash, one_value, one_window, one_watch, none_of_managers, none_of_monitors}

-- desks that are these
pub shown_as : (one_after one other_after other : Core) → one_after ≡ one → other_after ≡ other → ShowAlike one other → ShowAlike one_after other_after
shown_as one_after one other_after other first second alike = subst (λ (c : Core). ShowAlike c other_after) (sym first) (subst (λ (c : Core). ShowAlike one c) (sym second) alike)

-- a desk after a window of a manager, or one of a monitor, went out
abbrev span_taken : ℕ → PieceKey → Core → Core
span_taken ticket key old = record (with_spans (marked key (Some ticket) old.windows.spans) old) { tickets = given (window_of key) (length (log_of old).edits) old.tickets }

abbrev watch_taken : ℕ → PieceKey → Core → Core
watch_taken ticket key old = record {
  windows = marked_watch key (Some ticket) old.windows;
  boxes = taken_at key.owner ticket old.boxes;
  reports = old.reports;
  tickets = given (watch_window_of key) (length (log_of old).edits) old.tickets;
}

-- a desk with other windows of managers, and one with other windows and monitors, after a ticket has ended
abbrev span_ended : ℕ → SpansData → Core → Core
span_ended ticket spans old = record (with_spans spans old) { tickets = ended ticket old.tickets }

abbrev watch_ended : ℕ → WatchesData → BoxesData → Core → Core
watch_ended ticket windows boxes old = record { windows = windows; boxes = boxes; reports = old.reports; tickets = ended ticket old.tickets }

-- The monitor of a number left with the watch that the job's monitor has.
abbrev IsLeft : ℕ → MonitorJobData → Core → Type 0
IsLeft n job core = option_map (λ (a : Away). a.taken) (away_at n core.boxes.slots) ≡ Some job.task.held.watch

job_key : (j b : JobData) → SameSpanJob j b → key_for b ≡ key_for j
job_key j b same = ap (λ n. key_of n b.task.window) (sym same.task.owner) ∙ ap (λ n. key_of j.task.owner n) (sym same.task.window)

watch_job_key : (j b : MonitorJobData) → SameWatchJob j b → watch_key_for b ≡ watch_key_for j
watch_job_key j b same = ap (λ n. key_of n b.task.window) (sym same.task.number) ∙ ap (λ n. key_of j.task.number n) (sym same.task.window)

-- ---- the same of the windows alone

unmark_at : (old new : SpansData) (key : PieceKey) (ticket : ℕ) → Unmarks old key ticket new → UnmarksAt SameSpan old.board key ticket new.board
unmark_at old new key ticket (inl h) = inl (h.0, ap (λ (s : SpansData). s.board) h.1)
unmark_at old new key ticket (inr h) = inr (h.0, ap (λ (s : SpansData). s.board) h.1)

unmark_log : (old new : SpansData) (key : PieceKey) (ticket : ℕ) → Unmarks old key ticket new → new.log ≡ old.log
unmark_log old new key ticket (inl h) = ap (λ (s : SpansData). s.log) h.1
unmark_log old new key ticket (inr h) = ap (λ (s : SpansData). s.log) h.1

hand_at : (old new : SpansData) (key : PieceKey) (result : Pass SpanState (List Row)) → HandsIn old key result new → HandsInAt SameSpan old.board key result new.board
hand_at old new key result (inl h) = inl (h.0, ap (λ (s : SpansData). s.board) h.1)
hand_at old new key result (inr h) = inr (h.0, ap (λ (s : SpansData). s.board) h.1)

hand_log : (old new : SpansData) (key : PieceKey) (result : Pass SpanState (List Row)) → HandsIn old key result new → new.log ≡ old.log
hand_log old new key result (inl h) = ap (λ (s : SpansData). s.log) h.1
hand_log old new key result (inr h) = ap (λ (s : SpansData). s.log) h.1

unmark_watch_at : (old new : WatchesData) (key : PieceKey) (ticket : ℕ) → UnmarksWatch old key ticket new → UnmarksAt SameTally old.board key ticket new.board
unmark_watch_at old new key ticket (inl h) = inl (h.0, ap (λ (s : WatchesData). s.board) h.1)
unmark_watch_at old new key ticket (inr h) = inr (h.0, ap (λ (s : WatchesData). s.board) h.1)

hand_watch_at : (old new : WatchesData) (key : PieceKey) (result : Pass Tally (List Row)) → HandsInWatch old key result new → HandsInAt SameTally old.board key result new.board
hand_watch_at old new key result (inl h) = inl (h.0, ap (λ (s : WatchesData). s.board) h.1)
hand_watch_at old new key result (inr h) = inr (h.0, ap (λ (s : WatchesData). s.board) h.1)

module _ (one one_after other other_after : Core) (alike : ShowAlike one other) (is : IsDesk one) (has : IsDesk other) where
  now : standing one ≡ standing other
  now = ap (λ (l : LogData). inputs_after l.topo l.edits) alike.log

  watches : AreWatches (standing one) other.windows.board
  watches = subst (λ (i : InputData). AreWatches i other.windows.board) (sym now) has.monitors

  open_spans : OpenAlike SameSpan one.windows.spans.board.openings other.windows.spans.board.openings
  open_spans = spans_open one.windows.spans other.windows.spans is.managers has.managers alike.log

  open_watches : OpenAlike SameTally one.windows.board.openings other.windows.board.openings
  open_watches = watches_open (standing one) one.windows.board other.windows.board is.monitors watches

  all_spans : Listed SameSpan one.windows.spans.board.pieces other.windows.spans.board.pieces
  all_spans = listed SameSpan one.windows.spans.board.pieces other.windows.spans.board.pieces is.manager_keys.keys has.manager_keys.keys alike.managers

  all_watches : Listed SameTally one.windows.board.pieces other.windows.board.pieces
  all_watches = listed SameTally one.windows.board.pieces other.windows.board.pieces is.monitor_keys.keys has.monitor_keys.keys alike.monitors

  -- ---- edits and reports

  pub edits_shown : (e : AnEdit) (number : ℕ) → IsDesk one_after → IsDesk other_after → Edits one e number one_after → Edits other e number other_after → HaveSameMonitors one_after.boxes other_after.boxes → ShowAlike one_after other_after
  edits_shown e number desk its_desk first second boxes =
      let logs = edited_log e one.windows.spans one_after.windows.spans other.windows.spans other_after.windows.spans alike.log first.windows.spans second.windows.spans in
      record {
        log = logs;
        managers = edited_spans (SamePiece SameSpan) (record { live = refl; result = tt }) e one.windows.spans one_after.windows.spans other.windows.spans other_after.windows.spans alike.log alike.managers
            first.windows.spans second.windows.spans desk.managers its_desk.managers desk.manager_keys its_desk.manager_keys;
        monitors = edited_watches (SamePiece SameTally) (record { live = refl; result = tt }) e one.windows one_after.windows other.windows other_after.windows now alike.monitors first.windows second.windows
            (ap (λ (l : LogData). inputs_after l.topo l.edits) logs) desk.monitors its_desk.monitors desk.monitor_keys its_desk.monitor_keys;
        boxes = boxes;
        reports = first.reports ∙ alike.reports ∙ sym second.reports;
        tickets = first.tickets ∙ alike.tickets ∙ sym second.tickets;
      }

  pub published_shown : (version : ℕ) → Publishes one version one_after → Publishes other version other_after → ShowAlike one_after other_after
  published_shown version first second =
      shown_as one_after (record one { reports = one.reports ++ first.report ∷ [] }) other_after (record other { reports = other.reports ++ second.report ∷ [] }) first.rest second.rest (record {
        log = alike.log;
        managers = alike.managers;
        monitors = alike.monitors;
        boxes = alike.boxes;
        reports = ap (λ (rs : List ReportData). rs ++ first.report ∷ []) alike.reports ∙ ap (λ (r : ReportData). other.reports ++ r ∷ []) report;
        tickets = alike.tickets;
      })
    where
      rows : first.report.rows ≡ second.report.rows
      rows = one_report (captures_after (standing one)) first.report.rows second.report.rows first.rows (subst (λ (i : InputData). IsReport (captures_after i) second.report.rows) (sym now) second.rows)

      number : first.report.version ≡ second.report.version
      number = first.is ∙ sym second.is

      edit : first.report.edit ≡ second.report.edit
      edit = first.edit ∙ ap (λ (l : LogData). length l.edits) alike.log ∙ sym second.edit

      report : first.report ≡ second.report
      report = λ i. record { version = number i; edit = edit i; rows = rows i }

  -- ---- windows that go out

  given_shown : (window : APiece) → given window (length (log_of one).edits) one.tickets ≡ given window (length (log_of other).edits) other.tickets
  given_shown window = ap (λ (l : LogData). given window (length l.edits) one.tickets) alike.log ∙ ap (given window (length (log_of other).edits)) alike.tickets

  takes_shown : (ticket : ℕ) (key : PieceKey) → Takes one ticket key one_after → Takes other ticket key other_after → ShowAlike one_after other_after
  takes_shown ticket key first second = shown_as one_after (span_taken ticket key one) other_after (span_taken ticket key other) first.rest second.rest (record {
    log = alike.log;
    managers = marked_alike SameSpan key (Some ticket) one.windows.spans.board other.windows.spans.board alike.managers;
    monitors = alike.monitors;
    boxes = alike.boxes;
    reports = alike.reports;
    tickets = given_shown (window_of key);
  })

  takes_watch_shown : (ticket : ℕ) (key : PieceKey) → TakesWatch one ticket key one_after → TakesWatch other ticket key other_after → ShowAlike one_after other_after
  takes_watch_shown ticket key first second = shown_as one_after (watch_taken ticket key one) other_after (watch_taken ticket key other) first.rest second.rest (record {
    log = alike.log;
    managers = alike.managers;
    monitors = marked_alike SameTally key (Some ticket) one.windows.board other.windows.board alike.monitors;
    boxes = leave_alike key.owner ticket one.boxes (taken_at key.owner ticket one.boxes) other.boxes (taken_at key.owner ticket other.boxes) refl refl alike.boxes;
    reports = alike.reports;
    tickets = given_shown (watch_window_of key);
  })

  -- The first window to be taken is the same.
  first_span : (found same : Option PieceKey) → IsFirstFree SameSpan one.windows.spans.board found → IsFirstFree SameSpan other.windows.spans.board same → found ≡ same
  first_span found same first second =
      only_first (IsFree SameSpan other.windows.spans.board.openings) None other.windows.spans.board.pieces found same
      (first_free_there SameSpan span_back span_then one.windows.spans.board other.windows.spans.board open_spans all_spans found first) second

  first_watch : (found same : Option PieceKey) → IsFirstFreeWatch one found → IsFirstFreeWatch other same → found ≡ same
  first_watch found same first second =
      only_first (λ l k p. IsHere other.boxes k.owner × IsFree SameTally other.windows.board.openings l k p) None other.windows.board.pieces found same
      (first_there SameTally (λ l k p. IsHere one.boxes k.owner × IsFree SameTally one.windows.board.openings l k p) (λ l k p. IsHere other.boxes k.owner × IsFree SameTally other.windows.board.openings l k p)
      (λ l m k p q left piece free. (
        sym (here_alike one.boxes other.boxes alike.boxes k.owner) ∙ free.0,
        free_there SameTally tally_back tally_then one.windows.board.openings other.windows.board.openings open_watches l m k p q left piece free.1,
      ))
      (λ l m k p q left piece free. (
        here_alike one.boxes other.boxes alike.boxes k.owner ∙ free.0,
        free_again SameTally tally_back tally_then one.windows.board.openings other.windows.board.openings open_watches l m k p q left piece free.1,
      ))
      None None tt one.windows.board.pieces other.windows.board.pieces all_watches found first) second

  -- ---- windows of managers that come back

  span_rest : (t u : ℕ) → t ≡ u → one_after ≡ span_ended t one_after.windows.spans one → other_after ≡ span_ended u other_after.windows.spans other → one_after.windows.spans.log ≡ log_of one
      → other_after.windows.spans.log ≡ log_of other → HaveSamePieces SameSpan one_after.windows.spans.board other_after.windows.spans.board → ShowAlike one_after other_after
  span_rest t u ticket first second log its_log pieces = shown_as one_after (span_ended t one_after.windows.spans one) other_after (span_ended u other_after.windows.spans other) first second (record {
    log = log ∙ alike.log ∙ sym its_log;
    managers = pieces;
    monitors = alike.monitors;
    boxes = alike.boxes;
    reports = alike.reports;
    tickets = ap (λ n. ended n one.tickets) ticket ∙ ap (ended u) alike.tickets;
  })

  ends_shown : (j b : JobData) → SameSpanJob j b → Ends one j one_after → Ends other b other_after → ShowAlike one_after other_after
  ends_shown j b same first second =
      span_rest j.ticket b.ticket same.ticket first.rest second.rest (unmark_log one.windows.spans one_after.windows.spans (key_for j) j.ticket first.spans)
      (unmark_log other.windows.spans other_after.windows.spans (key_for b) b.ticket second.spans)
      (unmarked_alike SameSpan one.windows.spans.board one_after.windows.spans.board other.windows.spans.board other_after.windows.spans.board (key_for j) j.ticket alike.managers
      (unmark_at one.windows.spans one_after.windows.spans (key_for j) j.ticket first.spans)
      (unmark_at other.windows.spans other_after.windows.spans (key_for j) j.ticket
      (subst (λ (k : PieceKey). Unmarks other.windows.spans k j.ticket other_after.windows.spans) (job_key j b same)
      (subst (λ n. Unmarks other.windows.spans (key_for b) n other_after.windows.spans) (sym same.ticket) second.spans))))

  accepts_shown : (d b : DoneData) → SameSpanJob d.job b.job → SamePass SameSpan d.result b.result → Accepts one d one_after → Accepts other b other_after → ShowAlike one_after other_after
  accepts_shown d b same results first second =
      span_rest d.job.ticket b.job.ticket same.ticket first.rest second.rest (hand_log one.windows.spans one_after.windows.spans (key_for d.job) d.result first.spans)
      (hand_log other.windows.spans other_after.windows.spans (key_for b.job) b.result second.spans)
      (handed_alike SameSpan span_back span_then one.windows.spans.board other.windows.spans.board open_spans all_spans one_after.windows.spans.board other_after.windows.spans.board (key_for d.job) d.result b.result results alike.managers
      (hand_at one.windows.spans one_after.windows.spans (key_for d.job) d.result first.spans)
      (hand_at other.windows.spans other_after.windows.spans (key_for d.job) b.result
      (subst (λ (k : PieceKey). HandsIn other.windows.spans k b.result other_after.windows.spans) (job_key d.job b.job same) second.spans)))

  -- ---- windows of monitors that come back

  watch_rest : (j b : MonitorJobData) → SameWatchJob j b → IsOwn one j → IsOwn other b → one_after ≡ watch_ended j.ticket one_after.windows (brought_back j.task.number j.task.held one.boxes) one
      → other_after ≡ watch_ended b.ticket other_after.windows (brought_back b.task.number b.task.held other.boxes) other → one_after.windows.spans ≡ one.windows.spans → other_after.windows.spans ≡ other.windows.spans
      → HaveSamePieces SameTally one_after.windows.board other_after.windows.board → ShowAlike one_after other_after
  watch_rest j b same own its_own first second spans its_spans pieces =
      shown_as one_after (watch_ended j.ticket one_after.windows (brought_back j.task.number j.task.held one.boxes) one) other_after (watch_ended b.ticket other_after.windows (brought_back b.task.number b.task.held other.boxes) other)
      first second (record {
        log = ap (λ (s : SpansData). s.log) spans ∙ alike.log ∙ sym (ap (λ (s : SpansData). s.log) its_spans);
        managers = kept_alike SameSpan one_after.windows.spans.board one.windows.spans.board other_after.windows.spans.board other.windows.spans.board (ap (λ (s : SpansData). s.board) spans)
            (ap (λ (s : SpansData). s.board) its_spans) alike.managers;
        monitors = pieces;
        boxes = back_alike j.task.number j.task.held b.task.held one.boxes (brought_back j.task.number j.task.held one.boxes) other.boxes (brought_back b.task.number b.task.held other.boxes) is.boxes has.boxes own.watch
            (subst (λ n. IsLeft n b other) (sym same.task.number) its_own.watch) refl (ap (λ n. brought_back n b.task.held other.boxes) (sym same.task.number)) alike.boxes;
        reports = alike.reports;
        tickets = ap (λ n. ended n one.tickets) same.ticket ∙ ap (ended b.ticket) alike.tickets;
      })

  ends_watch_shown : (j b : MonitorJobData) → SameWatchJob j b → EndsWatch one j one_after → EndsWatch other b other_after → ShowAlike one_after other_after
  ends_watch_shown j b same first second =
      watch_rest j b same first.own second.own first.rest second.rest (unmarked_rest one.windows one_after.windows (watch_key_for j) j.ticket first.windows)
      (unmarked_rest other.windows other_after.windows (watch_key_for b) b.ticket second.windows)
      (unmarked_alike SameTally one.windows.board one_after.windows.board other.windows.board other_after.windows.board (watch_key_for j) j.ticket alike.monitors
      (unmark_watch_at one.windows one_after.windows (watch_key_for j) j.ticket first.windows)
      (unmark_watch_at other.windows other_after.windows (watch_key_for j) j.ticket
      (subst (λ (k : PieceKey). UnmarksWatch other.windows k j.ticket other_after.windows) (watch_job_key j b same)
      (subst (λ n. UnmarksWatch other.windows (watch_key_for b) n other_after.windows) (sym same.ticket) second.windows))))

  accepts_watch_shown : (d b : MonitorDoneData) → SameWatchJob d.job b.job → SamePass SameTally d.result b.result → AcceptsWatch one d one_after → AcceptsWatch other b other_after → ShowAlike one_after other_after
  accepts_watch_shown d b same results first second =
      watch_rest d.job b.job same first.own second.own first.rest second.rest (handed_rest one.windows one_after.windows (watch_key_for d.job) d.result first.windows)
      (handed_rest other.windows other_after.windows (watch_key_for b.job) b.result second.windows)
      (handed_alike SameTally tally_back tally_then one.windows.board other.windows.board open_watches all_watches one_after.windows.board other_after.windows.board (watch_key_for d.job) d.result b.result results alike.monitors
      (hand_watch_at one.windows one_after.windows (watch_key_for d.job) d.result first.windows)
      (hand_watch_at other.windows other_after.windows (watch_key_for d.job) b.result
      (subst (λ (k : PieceKey). HandsInWatch other.windows k b.result other_after.windows) (watch_job_key d.job b.job same) second.windows)))

  -- ---- tickets that are called back

  recalls_shown : (ticket : ℕ) → Recalls one ticket one_after → Recalls other ticket other_after → ShowAlike one_after other_after
  recalls_shown ticket first second = shown_as one_after (with_spans (marked first.key None one.windows.spans) one) other_after (with_spans (marked first.key None other.windows.spans) other) first.rest
      (second.rest ∙ ap (λ (k : PieceKey). with_spans (marked k None other.windows.spans) other) same) (record {
        log = alike.log;
        managers = marked_alike SameSpan first.key None one.windows.spans.board other.windows.spans.board alike.managers;
        monitors = alike.monitors;
        boxes = alike.boxes;
        reports = alike.reports;
        tickets = alike.tickets;
      })
    where
      out : IsOutFor ticket (window_of first.key) one.tickets.out
      out = let own = is.kept.tickets.live first.key ticket first.live in (own.taken, own.is, own.window)

      same : second.key ≡ first.key
      same = one_window (log_of one) one.windows.spans.board one.windows.board one.boxes one.tickets is.kept.tickets first.key second.key ticket out
          (lives_alike SameSpan (piece_at second.key one.windows.spans.board) (piece_at second.key other.windows.spans.board) (alike.managers second.key) ∙ second.live)

  recalls_watch_shown : (ticket : ℕ) → RecallsWatch one ticket one_after → RecallsWatch other ticket other_after → ShowAlike one_after other_after
  recalls_watch_shown ticket first second = shown_as one_after (record one { windows = marked_watch first.key None one.windows }) other_after (record other { windows = marked_watch first.key None other.windows }) first.rest
      (second.rest ∙ ap (λ (k : PieceKey). record other { windows = marked_watch k None other.windows }) same) (record {
        log = alike.log;
        managers = alike.managers;
        monitors = marked_alike SameTally first.key None one.windows.board other.windows.board alike.monitors;
        boxes = alike.boxes;
        reports = alike.reports;
        tickets = alike.tickets;
      })
    where
      out : IsOutFor ticket (watch_window_of first.key) one.tickets.out
      out = let own = is.kept.tickets.watched first.key ticket first.live in (own.taken, own.is, own.window)

      same : second.key ≡ first.key
      same = one_watch (log_of one) one.windows.spans.board one.windows.board one.boxes one.tickets is.kept.tickets first.key second.key ticket out
          (lives_alike SameTally (piece_at second.key one.windows.board) (piece_at second.key other.windows.board) (alike.monitors second.key) ∙ second.live)

  -- A ticket is live for a window of one kind.
  pub recall_shown : (ticket : ℕ) → Recalls one ticket one_after ⊎ RecallsWatch one ticket one_after → Recalls other ticket other_after ⊎ RecallsWatch other ticket other_after → ShowAlike one_after other_after
  recall_shown ticket (inl first) (inl second) = recalls_shown ticket first second
  recall_shown ticket (inr first) (inr second) = recalls_watch_shown ticket first second
  recall_shown ticket (inl first) (inr second) =
      let own = is.kept.tickets.live first.key ticket first.live in
      absurd (none_of_monitors (log_of one) one.windows.spans.board one.windows.board one.boxes one.tickets is.kept.tickets first.key second.key ticket (own.taken, own.is, own.window)
      (lives_alike SameTally (piece_at second.key one.windows.board) (piece_at second.key other.windows.board) (alike.monitors second.key) ∙ second.live))
  recall_shown ticket (inr first) (inl second) =
      let own = is.kept.tickets.watched first.key ticket first.live in
      absurd (none_of_managers (log_of one) one.windows.spans.board one.windows.board one.boxes one.tickets is.kept.tickets first.key second.key ticket (own.taken, own.is, own.window)
      (lives_alike SameSpan (piece_at second.key one.windows.spans.board) (piece_at second.key other.windows.spans.board) (alike.managers second.key) ∙ second.live))

  -- ---- jobs

  module _ {M : Type 0} where
    pub gives_shown : (job its : Job M) → ticket_of job ≡ ticket_of its → Gives one (Some job) one_after → Gives other (Some its) other_after → JobsAlike job its × ShowAlike one_after other_after
    gives_shown (a_job.Manager j) (a_job.Manager b) same first second =
        let key : key_for j ≡ key_for b = one_value (Some (key_for b)) (key_for j) (key_for b) (sym (first_span (Some (key_for j)) (Some (key_for b)) first.0.first second.0.first)) refl in (
          record {
            ticket = same;
            task = tasks_alike one.windows.spans other.windows.spans (key_for j) j.task b.task alike.log (entries_alike SameSpan one.windows.spans.board other.windows.spans.board open_spans all_spans (key_for j)) first.1
                (subst (λ (k : PieceKey). IsTaskFor other.windows.spans k b.task) (sym key) second.1);
          },
          takes_shown j.ticket (key_for j) first.0 (subst (λ (k : PieceKey). Takes other j.ticket k other_after) (sym key) (subst (λ n. Takes other n (key_for b) other_after) (sym same) second.0)),
        )
    gives_shown (a_job.Monitor j) (a_job.Monitor b) same first second =
        let key : watch_key_for j ≡ watch_key_for b = one_value (Some (watch_key_for b)) (watch_key_for j) (watch_key_for b) (sym (first_watch (Some (watch_key_for j)) (Some (watch_key_for b)) first.0.first second.0.first)) refl in (
          record {
            ticket = same;
            task = watch_tasks_alike one.windows other.windows (watch_key_for j) j.task b.task alike.log (entries_alike SameTally one.windows.board other.windows.board open_watches all_watches (watch_key_for j)) first.1
                (subst (λ (k : PieceKey). IsWatchTaskFor other.windows k (without_monitor b.task)) (sym key) second.1);
          },
          takes_watch_shown j.ticket (watch_key_for j) first.0
              (subst (λ (k : PieceKey). TakesWatch other j.ticket k other_after) (sym key) (subst (λ n. TakesWatch other n (watch_key_for b) other_after) (sym same) second.0)),
        )
    gives_shown (a_job.Manager j) (a_job.Monitor b) same first second = absurd (clash (Some (key_for j)) (key_for j) (first_span (Some (key_for j)) None first.0.first second.0.none) refl)
    gives_shown (a_job.Monitor j) (a_job.Manager b) same first second = absurd (clash None (key_for b) refl (first_span None (Some (key_for b)) first.0.none second.0.first))

    pub taken_back_shown : (job its : Job M) → JobsAlike job its → TakesBack one job one_after → TakesBack other its other_after → ShowAlike one_after other_after
    taken_back_shown (a_job.Manager j) (a_job.Manager b) jobs first second = ends_shown j b jobs first second
    taken_back_shown (a_job.Monitor j) (a_job.Monitor b) jobs first second = ends_watch_shown j b jobs first second
    taken_back_shown (a_job.Manager j) (a_job.Monitor b) jobs first second = absurd jobs
    taken_back_shown (a_job.Monitor j) (a_job.Manager b) jobs first second = absurd jobs

    pub handed_back_shown : (taken : Bool) (done its : Done M) → DonesAlike done its → HandsBack one done (handed_in taken) one_after → HandsBack other its (handed_in taken) other_after → ShowAlike one_after other_after
    handed_back_shown true (a_done.Manager d) (a_done.Manager b) dones first second = accepts_shown d b dones.0 dones.1 first second
    handed_back_shown true (a_done.Monitor d) (a_done.Monitor b) dones first second = accepts_watch_shown d b dones.0 dones.1 first second
    handed_back_shown false (a_done.Manager d) (a_done.Manager b) dones first second = ends_shown d.job b.job dones.0 first.1 second.1
    handed_back_shown false (a_done.Monitor d) (a_done.Monitor b) dones first second = ends_watch_shown d.job b.job dones.0 first.1 second.1
    handed_back_shown taken (a_done.Manager d) (a_done.Monitor b) dones first second = absurd dones
    handed_back_shown taken (a_done.Monitor d) (a_done.Manager b) dones first second = absurd dones
