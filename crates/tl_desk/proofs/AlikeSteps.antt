-- One call leads desks that have the same to desks that have the same.
use Rattle.std.proofs.Common.{◌≡◌, ℕ, inl, inr, true, false, List, [], ◌∷◌, ◌++◌, Option, Some, None, length, refl, sym, ap, subst, ◌∙◌}
use Rattle.tl_beats.specs.declared.Row.{Row}
use Rattle.std.specs.Option.{option_map}
use Rattle.tl_monitor.specs.Boxes.{BoxesData, away_at, brought_back}
use Rattle.tl_monitor.specs.declared.away.Away.{Away}
use Rattle.tl_definitions.specs.Report.{IsReport}
use Rattle.tl_definitions.proofs.ReportLaws.{one_report}
use Rattle.tl_edits.specs.Edits.{AnEdit, plain_change, attach}
use Rattle.tl_edits.specs.Inputs.{InputData}
use Rattle.tl_edits.specs.Log.{LogData, inputs_after}
use Rattle.tl_desk.specs.JobData.{JobData, DoneData, piece_of}
use Rattle.tl_desk.specs.MonitorJobs.{MonitorJobData, MonitorDoneData, monitor_piece}
use Rattle.tl_pieces.specs.declared.key.PieceKey.{PieceKey}
use Rattle.tl_pieces.specs.Keys.{value_at, change}
use Rattle.tl_pieces.specs.Pieces.{Board, Pass, IsFirst, IsFree, IsFirstFree, ChainsFrom, piece_at, live_of, with_live}
use Rattle.tl_check.specs.Captured.{captures_after}
use Rattle.tl_check.specs.Output.{ReportData}
use Rattle.tl_check.specs.States.{SameSpan}
use Rattle.tl_check.specs.declared.state.SpanState.{SpanState}
use Rattle.tl_board.specs.Spans.{SpansData}
use Rattle.tl_board.specs.Tickets.{HandsIn}
use Rattle.tl_board.specs.Windows.{key_of}
use Rattle.tl_board.proofs.EditLemmas.{same_entries}
use Rattle.tl_desk.specs.declared.piece.Piece.{Piece as APiece}
use Rattle.tl_desk.specs.declared.piece.Piece.TheVariants as piece
use Rattle.tl_desk.specs.TicketData.{IsOutFor}
use Rattle.tl_topology.specs.Topology.{Topology}
use Rattle.tl_board.specs.declared.tally.Tally.{Tally}
use Rattle.tl_board.specs.Outside.{HandsInWatch}
use Rattle.tl_board.specs.Tally.{SameTally}
use Rattle.tl_board.specs.Watches.{WatchesData, AreWatches}
use Rattle.tl_desk.specs.Alike.{HaveSameMonitors, AreAlike, CallsKeepDesksAlike}
use Rattle.tl_desk.specs.Core.{Core, IsDesk, IsNew, AllSettled, log_of, standing}
use Rattle.tl_desk.specs.Jobs.{IsHere, IsFirstFreeWatch, Takes, TakesWatch, Accepts, AcceptsWatch, Ends, EndsWatch, Recalls, RecallsWatch, Unmarks, UnmarksWatch, IsOwn, key_for, watch_key_for, given, ended}
use Rattle.tl_desk.specs.Steps.{Edits, Publishes, boxes_after, of_span, of_watch}
use Rattle.tl_desk.specs.Tickets.{window_of, watch_window_of}
use Rattle.tl_desk.specs.declared.call.Call.TheVariants as call
use Rattle.tl_desk.specs.declared.call.Outcome.{Outcome}
use Rattle.tl_desk.specs.declared.call.Outcome.TheVariants as outcome
use Rattle.tl_desk.proofs.AlikeBoxes.{here_alike, edit_alike, attach_alike, leave_alike, back_alike}
use Rattle.tl_desk.proofs.AlikeBoards.{OpenAlike, span_then, tally_then, spans_open, watches_open, wanted_alike, chains_alike, first_alike, equal_of, both_of, edited_log, edited_spans, edited_watches, unmarked_spans, handed_spans, unmarked_watches, unmarked_rest, handed_rest, handed_watches}
use Rattle.tl_desk.proofs.TicketLemmas.{one_value, one_key, one_watch_key, one_window, one_watch, none_of_managers, none_of_monitors}

-- the boxes with the monitor of a job, and the watch with which it left
abbrev brought : MonitorJobData → BoxesData → BoxesData
brought job boxes = brought_back job.task.number job.task.held boxes

abbrev IsLeft : ℕ → MonitorJobData → Core → Type 0
IsLeft n job core = option_map (λ (a : Away). a.taken) (away_at n core.boxes.slots) ≡ Some job.task.held.watch

-- the result that an outcome is
abbrev span_of : Outcome → Option (Pass SpanState (List Row))
span_of (outcome.Manager entry exit rows) = Some (record { entry = entry; exit = exit; rows = rows })
span_of (outcome.Monitor entry exit rows) = None

abbrev watch_of : Outcome → Option (Pass Tally (List Row))
watch_of (outcome.Manager entry exit rows) = None
watch_of (outcome.Monitor entry exit rows) = Some (record { entry = entry; exit = exit; rows = rows })

span_result : (r q : Pass SpanState (List Row)) → of_span r ≡ of_span q → r ≡ q
span_result r q same = one_value (Some r) r q refl (ap span_of same)

watch_result : (r q : Pass Tally (List Row)) → of_watch r ≡ of_watch q → r ≡ q
watch_result r q same = one_value (Some r) r q refl (ap watch_of same)

-- the boxes that a call leaves as they are
same_boxes : (one one_after other other_after : BoxesData) → one_after ≡ one → other_after ≡ other → HaveSameMonitors one other → HaveSameMonitors one_after other_after
same_boxes one one_after other other_after first second alike = subst (λ (b : BoxesData). HaveSameMonitors b other_after) (sym first) (subst (HaveSameMonitors one) (sym second) alike)

-- what both leave of what they had
both : {X : Type 0} (one one_after other other_after : X) → one_after ≡ one → other_after ≡ other → one ≡ other → one_after ≡ other_after
both one one_after other other_after first second same = first ∙ same ∙ sym second

module _ (one one_after other other_after : Core) (alike : AreAlike one other) (is : IsDesk one) (has : IsDesk other) where
  -- ---- edits and reports

  edits_alike : (e : AnEdit) (number : ℕ) → IsDesk one_after → IsDesk other_after → Edits one e number one_after → Edits other e number other_after → HaveSameMonitors one_after.boxes other_after.boxes → AreAlike one_after other_after
  edits_alike e number desk its_desk first second boxes =
      let logs = edited_log e one.windows.spans one_after.windows.spans other.windows.spans other_after.windows.spans alike.log first.windows.spans second.windows.spans in
      record {
        log = logs;
        managers = same_entries one_after.windows.spans.board.pieces other_after.windows.spans.board.pieces desk.manager_keys.keys its_desk.manager_keys.keys
            (λ k. equal_of (piece_at k one_after.windows.spans.board) (piece_at k other_after.windows.spans.board)
            (edited_spans (λ p q. p ≡ q) refl e one.windows.spans one_after.windows.spans other.windows.spans other_after.windows.spans alike.log
            (λ k. both_of (piece_at k one.windows.spans.board) (piece_at k other.windows.spans.board) (ap (value_at k) alike.managers)) first.windows.spans second.windows.spans
            desk.managers its_desk.managers desk.manager_keys its_desk.manager_keys k));
        monitors = same_entries one_after.windows.board.pieces other_after.windows.board.pieces desk.monitor_keys.keys its_desk.monitor_keys.keys
            (λ k. equal_of (piece_at k one_after.windows.board) (piece_at k other_after.windows.board)
            (edited_watches (λ p q. p ≡ q) refl e one.windows one_after.windows other.windows other_after.windows (ap (λ (l : LogData). inputs_after l.topo l.edits) alike.log)
            (λ k. both_of (piece_at k one.windows.board) (piece_at k other.windows.board) (ap (value_at k) alike.monitors)) first.windows second.windows
            (ap (λ (l : LogData). inputs_after l.topo l.edits) logs) desk.monitors its_desk.monitors desk.monitor_keys its_desk.monitor_keys k));
        boxes = boxes;
        reports = first.reports ∙ alike.reports ∙ sym second.reports;
        tickets = first.tickets ∙ alike.tickets ∙ sym second.tickets;
      }

  published_alike : (version : ℕ) → Publishes one version one_after → Publishes other version other_after → AreAlike one_after other_after
  published_alike version first second = record {
    log = both (log_of one) (log_of one_after) (log_of other) (log_of other_after) (ap (λ (c : Core). log_of c) first.rest) (ap (λ (c : Core). log_of c) second.rest) alike.log;
    managers = ap (λ (c : Core). c.windows.spans.board.pieces) first.rest ∙ alike.managers ∙ sym (ap (λ (c : Core). c.windows.spans.board.pieces) second.rest);
    monitors = ap (λ (c : Core). c.windows.board.pieces) first.rest ∙ alike.monitors ∙ sym (ap (λ (c : Core). c.windows.board.pieces) second.rest);
    boxes = same_boxes one.boxes one_after.boxes other.boxes other_after.boxes (ap (λ (c : Core). c.boxes) first.rest) (ap (λ (c : Core). c.boxes) second.rest) alike.boxes;
    reports = ap (λ (c : Core). c.reports) first.rest ∙ ap (λ (rs : List ReportData). rs ++ first.report ∷ []) alike.reports ∙ ap (λ (r : ReportData). other.reports ++ r ∷ []) report ∙ sym (ap (λ (c : Core). c.reports) second.rest);
    tickets = ap (λ (c : Core). c.tickets) first.rest ∙ alike.tickets ∙ sym (ap (λ (c : Core). c.tickets) second.rest);
  }
    where
      rows : first.report.rows ≡ second.report.rows
      rows = one_report (captures_after (standing one)) first.report.rows second.report.rows first.rows
          (subst (λ (l : LogData). IsReport (captures_after (inputs_after l.topo l.edits)) second.report.rows) (sym alike.log) second.rows)

      number : first.report.version ≡ second.report.version
      number = first.is ∙ sym second.is

      edit : first.report.edit ≡ second.report.edit
      edit = first.edit ∙ ap (λ (l : LogData). length l.edits) alike.log ∙ sym second.edit

      report : first.report ≡ second.report
      report = λ i. record { version = number i; edit = edit i; rows = rows i }

  -- ---- windows that go out

  given_alike : (window : APiece) → given window (length (log_of one).edits) one.tickets ≡ given window (length (log_of other).edits) other.tickets
  given_alike window = ap (λ (l : LogData). given window (length l.edits) one.tickets) alike.log ∙ ap (given window (length (log_of other).edits)) alike.tickets

  takes_alike : (ticket : ℕ) (key : PieceKey) → Takes one ticket key one_after → Takes other ticket key other_after → AreAlike one_after other_after
  takes_alike ticket key first second = record {
    log = both (log_of one) (log_of one_after) (log_of other) (log_of other_after) (ap (λ (c : Core). log_of c) first.rest) (ap (λ (c : Core). log_of c) second.rest) alike.log;
    managers = ap (λ (c : Core). c.windows.spans.board.pieces) first.rest ∙ ap (change key (with_live (Some ticket))) alike.managers ∙ sym (ap (λ (c : Core). c.windows.spans.board.pieces) second.rest);
    monitors = ap (λ (c : Core). c.windows.board.pieces) first.rest ∙ alike.monitors ∙ sym (ap (λ (c : Core). c.windows.board.pieces) second.rest);
    boxes = same_boxes one.boxes one_after.boxes other.boxes other_after.boxes (ap (λ (c : Core). c.boxes) first.rest) (ap (λ (c : Core). c.boxes) second.rest) alike.boxes;
    reports = ap (λ (c : Core). c.reports) first.rest ∙ alike.reports ∙ sym (ap (λ (c : Core). c.reports) second.rest);
    tickets = ap (λ (c : Core). c.tickets) first.rest ∙ given_alike (window_of key) ∙ sym (ap (λ (c : Core). c.tickets) second.rest);
  }

  takes_watch_alike : (ticket : ℕ) (key : PieceKey) → TakesWatch one ticket key one_after → TakesWatch other ticket key other_after → AreAlike one_after other_after
  takes_watch_alike ticket key first second = record {
    log = both (log_of one) (log_of one_after) (log_of other) (log_of other_after) (ap (λ (c : Core). log_of c) first.rest) (ap (λ (c : Core). log_of c) second.rest) alike.log;
    managers = ap (λ (c : Core). c.windows.spans.board.pieces) first.rest ∙ alike.managers ∙ sym (ap (λ (c : Core). c.windows.spans.board.pieces) second.rest);
    monitors = ap (λ (c : Core). c.windows.board.pieces) first.rest ∙ ap (change key (with_live (Some ticket))) alike.monitors ∙ sym (ap (λ (c : Core). c.windows.board.pieces) second.rest);
    boxes = leave_alike key.owner ticket one.boxes one_after.boxes other.boxes other_after.boxes (ap (λ (c : Core). c.boxes) first.rest) (ap (λ (c : Core). c.boxes) second.rest) alike.boxes;
    reports = ap (λ (c : Core). c.reports) first.rest ∙ alike.reports ∙ sym (ap (λ (c : Core). c.reports) second.rest);
    tickets = ap (λ (c : Core). c.tickets) first.rest ∙ given_alike (watch_window_of key) ∙ sym (ap (λ (c : Core). c.tickets) second.rest);
  }

  -- ---- windows of managers that come back

  -- all but their windows
  span_rest : (ticket : ℕ) (spans its_spans : SpansData) → one_after ≡ record one { windows = record one.windows { spans = spans }; tickets = ended ticket one.tickets }
      → other_after ≡ record other { windows = record other.windows { spans = its_spans }; tickets = ended ticket other.tickets }
      → (one_after.windows.spans.log ≡ other_after.windows.spans.log) × (one_after.windows.spans.board.pieces ≡ other_after.windows.spans.board.pieces) → AreAlike one_after other_after
  span_rest ticket spans its_spans first second same = record {
    log = same.0;
    managers = same.1;
    monitors = ap (λ (c : Core). c.windows.board.pieces) first ∙ alike.monitors ∙ sym (ap (λ (c : Core). c.windows.board.pieces) second);
    boxes = same_boxes one.boxes one_after.boxes other.boxes other_after.boxes (ap (λ (c : Core). c.boxes) first) (ap (λ (c : Core). c.boxes) second) alike.boxes;
    reports = ap (λ (c : Core). c.reports) first ∙ alike.reports ∙ sym (ap (λ (c : Core). c.reports) second);
    tickets = ap (λ (c : Core). c.tickets) first ∙ ap (ended ticket) alike.tickets ∙ sym (ap (λ (c : Core). c.tickets) second);
  }

  module _ (ticket owner window : ℕ) where
    -- the key of a job's window
    span_key : (job : JobData) → piece_of job ≡ piece.Manager owner window → key_for job ≡ key_of owner window
    span_key job same = one_key (key_for job) (key_of owner window) same

    watch_key : (job : MonitorJobData) → monitor_piece job ≡ piece.Monitor owner window → watch_key_for job ≡ key_of owner window
    watch_key job same = one_watch_key (watch_key_for job) (key_of owner window) same

    unmarks : (old new : SpansData) (job : JobData) → job.ticket ≡ ticket → piece_of job ≡ piece.Manager owner window → Unmarks old (key_for job) job.ticket new → Unmarks old (key_of owner window) ticket new
    unmarks old new job number same made = subst (λ (k : PieceKey). Unmarks old k ticket new) (span_key job same) (subst (λ t. Unmarks old (key_for job) t new) number made)

    unmarks_watch : (old new : WatchesData) (job : MonitorJobData) → job.ticket ≡ ticket → monitor_piece job ≡ piece.Monitor owner window → UnmarksWatch old (watch_key_for job) job.ticket new
        → UnmarksWatch old (key_of owner window) ticket new
    unmarks_watch old new job number same made = subst (λ (k : PieceKey). UnmarksWatch old k ticket new) (watch_key job same) (subst (λ t. UnmarksWatch old (watch_key_for job) t new) number made)

    ends_alike : (job back : JobData) → job.ticket ≡ ticket → piece_of job ≡ piece.Manager owner window → back.ticket ≡ ticket → piece_of back ≡ piece.Manager owner window → Ends one job one_after → Ends other back other_after
        → AreAlike one_after other_after
    ends_alike job back number same its_number its_same first second =
        span_rest ticket one_after.windows.spans other_after.windows.spans
        (subst (λ t. one_after ≡ record one { windows = record one.windows { spans = one_after.windows.spans }; tickets = ended t one.tickets }) number first.rest)
        (subst (λ t. other_after ≡ record other { windows = record other.windows { spans = other_after.windows.spans }; tickets = ended t other.tickets }) its_number second.rest)
        (unmarked_spans one.windows.spans one_after.windows.spans other.windows.spans other_after.windows.spans (key_of owner window) ticket alike.log alike.managers
        (unmarks one.windows.spans one_after.windows.spans job number same first.spans) (unmarks other.windows.spans other_after.windows.spans back its_number its_same second.spans))

    hands : (old new : SpansData) (done : DoneData) (result : Pass SpanState (List Row)) → piece_of done.job ≡ piece.Manager owner window → done.result ≡ result → HandsIn old (key_for done.job) done.result new
        → HandsIn old (key_of owner window) result new
    hands old new done result same equal made = subst (λ (r : Pass SpanState (List Row)). HandsIn old (key_of owner window) r new) equal (subst (λ (k : PieceKey). HandsIn old k done.result new) (span_key done.job same) made)

    accepts_alike : (done back : DoneData) → done.job.ticket ≡ ticket → piece_of done.job ≡ piece.Manager owner window → back.job.ticket ≡ ticket → piece_of back.job ≡ piece.Manager owner window → back.result ≡ done.result
        → Accepts one done one_after → Accepts other back other_after → AreAlike one_after other_after
    accepts_alike done back number same its_number its_same result first second =
        span_rest ticket one_after.windows.spans other_after.windows.spans
        (subst (λ t. one_after ≡ record one { windows = record one.windows { spans = one_after.windows.spans }; tickets = ended t one.tickets }) number first.rest)
        (subst (λ t. other_after ≡ record other { windows = record other.windows { spans = other_after.windows.spans }; tickets = ended t other.tickets }) its_number second.rest)
        (handed_spans one.windows.spans one_after.windows.spans other.windows.spans other_after.windows.spans (key_of owner window) done.result alike.log alike.managers is.managers has.managers
        (hands one.windows.spans one_after.windows.spans done done.result same refl first.spans) (hands other.windows.spans other_after.windows.spans back done.result its_same result second.spans))

    -- ---- windows of monitors that come back

    -- all but the windows of monitors
    watch_rest : (job back : MonitorJobData) → job.ticket ≡ ticket → monitor_piece job ≡ piece.Monitor owner window → back.ticket ≡ ticket → monitor_piece back ≡ piece.Monitor owner window → IsOwn one job → IsOwn other back
        → one_after.boxes ≡ brought job one.boxes → other_after.boxes ≡ brought back other.boxes → one_after.tickets ≡ ended job.ticket one.tickets → other_after.tickets ≡ ended back.ticket other.tickets
        → one_after.reports ≡ one.reports → other_after.reports ≡ other.reports → one_after.windows.spans ≡ one.windows.spans → other_after.windows.spans ≡ other.windows.spans
        → one_after.windows.board.pieces ≡ other_after.windows.board.pieces → AreAlike one_after other_after
    watch_rest job back number same its_number its_same own its_own boxes its_boxes tickets its_tickets reports its_reports spans its_spans pieces = record {
      log = ap (λ (s : SpansData). s.log) spans ∙ alike.log ∙ sym (ap (λ (s : SpansData). s.log) its_spans);
      managers = ap (λ (s : SpansData). s.board.pieces) spans ∙ alike.managers ∙ sym (ap (λ (s : SpansData). s.board.pieces) its_spans);
      monitors = pieces;
      boxes = back_alike owner job.task.held back.task.held one.boxes one_after.boxes other.boxes other_after.boxes is.boxes has.boxes (subst (λ n. IsLeft n job one) mine own.watch) (subst (λ n. IsLeft n back other) theirs its_own.watch)
          (subst (λ n. one_after.boxes ≡ brought_back n job.task.held one.boxes) mine boxes) (subst (λ n. other_after.boxes ≡ brought_back n back.task.held other.boxes) theirs its_boxes) alike.boxes;
      reports = reports ∙ alike.reports ∙ sym its_reports;
      tickets = tickets ∙ ap (λ t. ended t one.tickets) number ∙ ap (ended ticket) alike.tickets ∙ sym (its_tickets ∙ ap (λ t. ended t other.tickets) its_number);
    }
      where
        mine : job.task.number ≡ owner
        mine = ap (λ (k : PieceKey). k.owner) (watch_key job same)

        theirs : back.task.number ≡ owner
        theirs = ap (λ (k : PieceKey). k.owner) (watch_key back its_same)

    ends_watch_alike : (job back : MonitorJobData) → job.ticket ≡ ticket → monitor_piece job ≡ piece.Monitor owner window → back.ticket ≡ ticket → monitor_piece back ≡ piece.Monitor owner window → EndsWatch one job one_after
        → EndsWatch other back other_after → AreAlike one_after other_after
    ends_watch_alike job back number same its_number its_same first second =
        watch_rest job back number same its_number its_same first.own second.own (ap (λ (c : Core). c.boxes) first.rest) (ap (λ (c : Core). c.boxes) second.rest) (ap (λ (c : Core). c.tickets) first.rest) (ap (λ (c : Core). c.tickets) second.rest)
        (ap (λ (c : Core). c.reports) first.rest) (ap (λ (c : Core). c.reports) second.rest) (unmarked_rest one.windows one_after.windows (watch_key_for job) job.ticket first.windows)
        (unmarked_rest other.windows other_after.windows (watch_key_for back) back.ticket second.windows)
        (unmarked_watches one.windows one_after.windows other.windows other_after.windows (key_of owner window) ticket alike.monitors (unmarks_watch one.windows one_after.windows job number same first.windows)
        (unmarks_watch other.windows other_after.windows back its_number its_same second.windows))

    hands_watch : (old new : WatchesData) (done : MonitorDoneData) (result : Pass Tally (List Row)) → monitor_piece done.job ≡ piece.Monitor owner window → done.result ≡ result → HandsInWatch old (watch_key_for done.job) done.result new
        → HandsInWatch old (key_of owner window) result new
    hands_watch old new done result same equal made =
        subst (λ (r : Pass Tally (List Row)). HandsInWatch old (key_of owner window) r new) equal (subst (λ (k : PieceKey). HandsInWatch old k done.result new) (watch_key done.job same) made)

    accepts_watch_alike : (done back : MonitorDoneData) → done.job.ticket ≡ ticket → monitor_piece done.job ≡ piece.Monitor owner window → back.job.ticket ≡ ticket → monitor_piece back.job ≡ piece.Monitor owner window
        → back.result ≡ done.result → AcceptsWatch one done one_after → AcceptsWatch other back other_after → AreAlike one_after other_after
    accepts_watch_alike done back number same its_number its_same result first second =
        watch_rest done.job back.job number same its_number its_same first.own second.own (ap (λ (c : Core). c.boxes) first.rest) (ap (λ (c : Core). c.boxes) second.rest) (ap (λ (c : Core). c.tickets) first.rest) (ap (λ (c : Core). c.tickets) second.rest)
        (ap (λ (c : Core). c.reports) first.rest) (ap (λ (c : Core). c.reports) second.rest) (handed_rest one.windows one_after.windows (watch_key_for done.job) done.result first.windows)
        (handed_rest other.windows other_after.windows (watch_key_for back.job) back.result second.windows)
        (handed_watches one.windows one_after.windows other.windows other_after.windows (key_of owner window) done.result (standing one) alike.monitors is.monitors
        (subst (λ (l : LogData). AreWatches (inputs_after l.topo l.edits) other.windows.board) (sym alike.log) has.monitors)
        (hands_watch one.windows one_after.windows done done.result same refl first.windows) (hands_watch other.windows other_after.windows back done.result its_same result second.windows))

  -- ---- tickets that are called back

  recalls_alike : (ticket : ℕ) → Recalls one ticket one_after → Recalls other ticket other_after → AreAlike one_after other_after
  recalls_alike ticket first second = record {
    log = ap (λ (c : Core). log_of c) first.rest ∙ alike.log ∙ sym (ap (λ (c : Core). log_of c) second.rest);
    managers = ap (λ (c : Core). c.windows.spans.board.pieces) first.rest ∙ ap (change first.key (with_live None)) alike.managers
        ∙ sym (ap (λ (c : Core). c.windows.spans.board.pieces) second.rest ∙ ap (λ (k : PieceKey). change k (with_live None) other.windows.spans.board.pieces) same);
    monitors = ap (λ (c : Core). c.windows.board.pieces) first.rest ∙ alike.monitors ∙ sym (ap (λ (c : Core). c.windows.board.pieces) second.rest);
    boxes = same_boxes one.boxes one_after.boxes other.boxes other_after.boxes (ap (λ (c : Core). c.boxes) first.rest) (ap (λ (c : Core). c.boxes) second.rest) alike.boxes;
    reports = ap (λ (c : Core). c.reports) first.rest ∙ alike.reports ∙ sym (ap (λ (c : Core). c.reports) second.rest);
    tickets = ap (λ (c : Core). c.tickets) first.rest ∙ alike.tickets ∙ sym (ap (λ (c : Core). c.tickets) second.rest);
  }
    where
      out : IsOutFor ticket (window_of first.key) one.tickets.out
      out = let own = is.kept.tickets.live first.key ticket first.live in (own.taken, own.is, own.window)

      same : second.key ≡ first.key
      same = one_window (log_of one) one.windows.spans.board one.windows.board one.boxes one.tickets is.kept.tickets first.key second.key ticket out
          (ap (λ es. live_of (value_at second.key es)) alike.managers ∙ second.live)

  recalls_watch_alike : (ticket : ℕ) → RecallsWatch one ticket one_after → RecallsWatch other ticket other_after → AreAlike one_after other_after
  recalls_watch_alike ticket first second = record {
    log = ap (λ (c : Core). log_of c) first.rest ∙ alike.log ∙ sym (ap (λ (c : Core). log_of c) second.rest);
    managers = ap (λ (c : Core). c.windows.spans.board.pieces) first.rest ∙ alike.managers ∙ sym (ap (λ (c : Core). c.windows.spans.board.pieces) second.rest);
    monitors = ap (λ (c : Core). c.windows.board.pieces) first.rest ∙ ap (change first.key (with_live None)) alike.monitors
        ∙ sym (ap (λ (c : Core). c.windows.board.pieces) second.rest ∙ ap (λ (k : PieceKey). change k (with_live None) other.windows.board.pieces) same);
    boxes = same_boxes one.boxes one_after.boxes other.boxes other_after.boxes (ap (λ (c : Core). c.boxes) first.rest) (ap (λ (c : Core). c.boxes) second.rest) alike.boxes;
    reports = ap (λ (c : Core). c.reports) first.rest ∙ alike.reports ∙ sym (ap (λ (c : Core). c.reports) second.rest);
    tickets = ap (λ (c : Core). c.tickets) first.rest ∙ alike.tickets ∙ sym (ap (λ (c : Core). c.tickets) second.rest);
  }
    where
      out : IsOutFor ticket (watch_window_of first.key) one.tickets.out
      out = let own = is.kept.tickets.watched first.key ticket first.live in (own.taken, own.is, own.window)

      same : second.key ≡ first.key
      same = one_watch (log_of one) one.windows.spans.board one.windows.board one.boxes one.tickets is.kept.tickets first.key second.key ticket out
          (ap (λ es. live_of (value_at second.key es)) alike.monitors ∙ second.live)

  -- A ticket is live for a window of one kind.
  recalls_differ : (ticket : ℕ) → Recalls one ticket one_after → RecallsWatch other ticket other_after → ⊥
  recalls_differ ticket first second =
      let own = is.kept.tickets.live first.key ticket first.live in
      none_of_monitors (log_of one) one.windows.spans.board one.windows.board one.boxes one.tickets is.kept.tickets first.key second.key ticket (own.taken, own.is, own.window)
      (ap (λ es. live_of (value_at second.key es)) alike.monitors ∙ second.live)

  recalls_differ_back : (ticket : ℕ) → RecallsWatch one ticket one_after → Recalls other ticket other_after → ⊥
  recalls_differ_back ticket first second =
      let own = is.kept.tickets.watched first.key ticket first.live in
      none_of_managers (log_of one) one.windows.spans.board one.windows.board one.boxes one.tickets is.kept.tickets first.key second.key ticket (own.taken, own.is, own.window)
      (ap (λ es. live_of (value_at second.key es)) alike.managers ∙ second.live)

-- ---- each call

pub calls_keep_desks_alike : CallsKeepDesksAlike
calls_keep_desks_alike (call.Edit change number) one other one_after other_after none alike is has desk its_desk first second =
    edits_alike one one_after other other_after alike is has (plain_change change) number desk its_desk first.0 second.0
    (same_boxes (boxes_after (plain_change change) number one.boxes) one_after.boxes (boxes_after (plain_change change) number other.boxes) other_after.boxes first.1 second.1
    (edit_alike (plain_change change) number one.boxes other.boxes is.boxes has.boxes alike.boxes))
calls_keep_desks_alike (call.Attach monitor w number) one other one_after other_after none alike is has desk its_desk first second =
    edits_alike one one_after other other_after alike is has (attach monitor w) number desk its_desk first.0 second.0
    (attach_alike monitor w first.1.0 second.1.0 one.boxes one_after.boxes other.boxes other_after.boxes first.1.1 second.1.1 first.1.2 second.1.2 alike.boxes)
calls_keep_desks_alike (call.Recheck count) one other one_after other_after none alike is has desk its_desk first second = absurd none
calls_keep_desks_alike (call.Publish version) one other one_after other_after none alike is has desk its_desk first second = published_alike one one_after other other_after alike is has version first second
calls_keep_desks_alike (call.Take ticket (piece.Manager owner window) from) one other one_after other_after none alike is has desk its_desk first second =
    takes_alike one one_after other other_after alike is has ticket (key_of owner window) first.0 second.0
calls_keep_desks_alike (call.Take ticket (piece.Monitor number window) from) one other one_after other_after none alike is has desk its_desk first second =
    takes_watch_alike one one_after other other_after alike is has ticket (key_of number window) first.0 second.0
calls_keep_desks_alike (call.HandIn ticket (piece.Manager owner window) found true) one other one_after other_after none alike is has desk its_desk first second =
    accepts_alike one one_after other other_after alike is has ticket owner window first.0 second.0 first.1.0 first.1.1 second.1.0 second.1.1 (span_result second.0.result first.0.result (second.1.2 ∙ sym first.1.2)) first.2 second.2
calls_keep_desks_alike (call.HandIn ticket (piece.Manager owner window) found false) one other one_after other_after none alike is has desk its_desk first second =
    ends_alike one one_after other other_after alike is has ticket owner window first.0.job second.0.job first.1.0 first.1.1 second.1.0 second.1.1 first.3 second.3
calls_keep_desks_alike (call.HandIn ticket (piece.Monitor number window) found true) one other one_after other_after none alike is has desk its_desk first second =
    accepts_watch_alike one one_after other other_after alike is has ticket number window first.0 second.0 first.1.0 first.1.1 second.1.0 second.1.1 (watch_result second.0.result first.0.result (second.1.2 ∙ sym first.1.2)) first.2 second.2
calls_keep_desks_alike (call.HandIn ticket (piece.Monitor number window) found false) one other one_after other_after none alike is has desk its_desk first second =
    ends_watch_alike one one_after other other_after alike is has ticket number window first.0.job second.0.job first.1.0 first.1.1 second.1.0 second.1.1 first.3 second.3
calls_keep_desks_alike (call.Abandon ticket (piece.Manager owner window)) one other one_after other_after none alike is has desk its_desk first second =
    ends_alike one one_after other other_after alike is has ticket owner window first.0 second.0 first.1 first.2 second.1 second.2 first.3 second.3
calls_keep_desks_alike (call.Abandon ticket (piece.Monitor number window)) one other one_after other_after none alike is has desk its_desk first second =
    ends_watch_alike one one_after other other_after alike is has ticket number window first.0 second.0 first.1 first.2 second.1 second.2 first.3 second.3
calls_keep_desks_alike (call.Recall ticket) one other one_after other_after none alike is has desk its_desk (inl first) (inl second) = recalls_alike one one_after other other_after alike is has ticket first second
calls_keep_desks_alike (call.Recall ticket) one other one_after other_after none alike is has desk its_desk (inl first) (inr second) = absurd (recalls_differ one one_after other other_after alike is has ticket first second)
calls_keep_desks_alike (call.Recall ticket) one other one_after other_after none alike is has desk its_desk (inr first) (inl second) = absurd (recalls_differ_back one one_after other other_after alike is has ticket first second)
calls_keep_desks_alike (call.Recall ticket) one other one_after other_after none alike is has desk its_desk (inr first) (inr second) = recalls_watch_alike one one_after other other_after alike is has ticket first second

-- New desks have the same.
pub new_alike : (topo : Topology) (one other : Core) → IsNew topo one → IsNew topo other → AreAlike one other
new_alike topo one other first second = record {
  log = first.log ∙ sym second.log;
  managers = first.spans ∙ sym second.spans;
  monitors = ap (λ (b : Board Tally (List Row)). b.pieces) first.watches ∙ sym (ap (λ (b : Board Tally (List Row)). b.pieces) second.watches);
  boxes = same_boxes (record { slots = []; ended = [] }) one.boxes (record { slots = []; ended = [] }) other.boxes first.boxes second.boxes (record { ended = refl; places = λ n. refl });
  reports = first.reports ∙ sym second.reports;
  tickets = first.tickets ∙ sym second.tickets;
}

-- What is true of desks that have the same.
module _ (one other : Core) (alike : AreAlike one other) (is : IsDesk one) (has : IsDesk other) where
  now : standing one ≡ standing other
  now = ap (λ (l : LogData). inputs_after l.topo l.edits) alike.log

  watches : AreWatches (standing one) other.windows.board
  watches = subst (λ (i : InputData). AreWatches i other.windows.board) (sym now) has.monitors

  open_spans : OpenAlike SameSpan other.windows.spans.board.openings one.windows.spans.board.openings
  open_spans = spans_open other.windows.spans one.windows.spans has.managers is.managers (sym alike.log)

  open_watches : OpenAlike SameTally other.windows.board.openings one.windows.board.openings
  open_watches = watches_open (standing one) other.windows.board one.windows.board watches is.monitors

  -- The first window to be taken is the same.
  pub first_free_alike : (found : Option PieceKey) → IsFirstFree SameSpan one.windows.spans.board found → IsFirstFree SameSpan other.windows.spans.board found
  first_free_alike found first =
      first_alike (IsFree SameSpan one.windows.spans.board.openings) (IsFree SameSpan other.windows.spans.board.openings)
      (λ l k p free. (wanted_alike SameSpan span_then one.windows.spans.board.openings other.windows.spans.board.openings open_spans l k p free.0, free.1))
      (λ l k p free. (wanted_alike SameSpan span_then other.windows.spans.board.openings one.windows.spans.board.openings (spans_open one.windows.spans other.windows.spans is.managers has.managers alike.log) l k p free.0, free.1))
      None other.windows.spans.board.pieces found (subst (λ es. IsFirst (IsFree SameSpan one.windows.spans.board.openings) None es found) alike.managers first)

  pub first_watch_alike : (found : Option PieceKey) → IsFirstFreeWatch one found → IsFirstFreeWatch other found
  first_watch_alike found first =
      first_alike (λ l k p. IsHere one.boxes k.owner × IsFree SameTally one.windows.board.openings l k p) (λ l k p. IsHere other.boxes k.owner × IsFree SameTally other.windows.board.openings l k p)
      (λ l k p free. (sym (here_alike one.boxes other.boxes alike.boxes k.owner) ∙ free.0, (wanted_alike SameTally tally_then one.windows.board.openings other.windows.board.openings open_watches l k p free.1.0, free.1.1)))
      (λ l k p free. (
        here_alike one.boxes other.boxes alike.boxes k.owner ∙ free.0,
        (wanted_alike SameTally tally_then other.windows.board.openings one.windows.board.openings (watches_open (standing one) one.windows.board other.windows.board is.monitors watches) l k p free.1.0, free.1.1),
      ))
      None other.windows.board.pieces found (subst (λ es. IsFirst (λ l k p. IsHere one.boxes k.owner × IsFree SameTally one.windows.board.openings l k p) None es found) alike.monitors first)

  -- Both have checked all windows, or neither.
  pub settled_alike : AllSettled other → AllSettled one
  settled_alike settled = (
    subst (λ es. ChainsFrom SameSpan one.windows.spans.board.openings None es) (sym alike.managers)
        (chains_alike SameSpan span_then other.windows.spans.board.openings one.windows.spans.board.openings open_spans None other.windows.spans.board.pieces settled.0),
    subst (λ es. ChainsFrom SameTally one.windows.board.openings None es) (sym alike.monitors)
        (chains_alike SameTally tally_then other.windows.board.openings one.windows.board.openings open_watches None other.windows.board.pieces settled.1),
  )
