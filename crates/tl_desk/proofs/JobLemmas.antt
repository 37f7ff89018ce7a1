-- Desks after a call on jobs.
use Rattle.std.proofs.Common.{◌≡◌, ℕ, ◌+◌, ◌⊎◌, inl, inr, List, Option, Some, None, length, refl, sym, ap, subst, ◌∙◌}
use Rattle.std.specs.Prelude.{is_some, option_map, true}
use Rattle.std.specs.List.{AllByRecursion}
use Rattle.tl_beats.specs.declared.Row.{Row}
use Rattle.tl_beats.specs.declared.watch.Watch.{Watch}
use Rattle.tl_monitor.specs.Boxes.{BoxesData, IsBoxes, place_at, held_at, away_at, attached_watch, taken_at, brought_back}
use Rattle.tl_monitor.specs.Places.{Place, Here, Out, watch_of_place, limit_of, leaving, tuned}
use Rattle.tl_monitor.specs.declared.away.Away.{Away}
use Rattle.tl_monitor.proofs.WatchLemmas.{taken_watches, brought_back_watches}
use Rattle.tl_edits.specs.Log.{LogData, inputs_after}
use Rattle.tl_desk.specs.JobData.{JobData, piece_of}
use Rattle.tl_desk.specs.MonitorJobs.{MonitorJobData}
use Rattle.tl_monitor.specs.Held.{Held}
use Rattle.tl_pieces.specs.declared.key.PieceKey.{PieceKey}
use Rattle.tl_pieces.specs.Keys.{change}
use Rattle.tl_pieces.specs.Pieces.{Board, Pass, Piece, piece_at, live_of, with_live, with_pieces}
use Rattle.tl_check.specs.declared.state.SpanState.{SpanState}
use Rattle.tl_board.specs.Spans.{SpansData}
use Rattle.tl_board.specs.Tickets.{HandsIn}
use Rattle.tl_board.specs.Windows.{with_checked}
use Rattle.tl_desk.specs.declared.tickets.Taken.{Taken}
use Rattle.tl_desk.specs.TicketData as tickets
use Rattle.tl_desk.specs.TicketData.{TicketsData, AreTickets, IsOutFor}
use Rattle.tl_board.specs.declared.tally.Tally.{Tally}
use Rattle.tl_board.specs.Outside.{IsWatchTaskFor, HandsInWatch}
use Rattle.tl_board.specs.WatchTasks.{WatchWindowData, with_monitor, without_monitor}
use Rattle.tl_board.specs.Watches.{WatchesData}
use Rattle.tl_desk.specs.Core.{Core, IsSound, IsOf, AreAttached, AreKnown, log_of, standing}
use Rattle.tl_desk.specs.declared.job.Done.{Done}
use Rattle.tl_desk.specs.declared.job.Done.TheVariants as a_done
use Rattle.tl_desk.specs.declared.job.HandIn.{HandIn}
use Rattle.tl_desk.specs.declared.job.HandIn.TheVariants as answer
use Rattle.std.specs.Option.{IsSomeAnd, option_and_then}
use Rattle.tl_edits.specs.Inputs.{watch_at}
use Rattle.tl_desk.specs.Steps.{HandInStep}
use Rattle.tl_desk.specs.Jobs.{HandsBack, Unmarks, UnmarksWatch, IsLive, IsLiveAt, IsLiveAtWatch, IsOwn, ended, given, marked, marked_watch, with_spans, key_for, watch_key_for}
use Rattle.tl_desk.specs.Ends.{HaveEnded}
use Rattle.tl_desk.specs.Tickets.{HoldsTickets, window_of, watch_window_of}
use Rattle.tl_desk.proofs.EndLemmas.{ends_left, ends_back}
use Rattle.tl_desk.proofs.AttachedLemmas.{ticket_of, known_by, ticket_here, ticket_other}
use Rattle.tl_desk.proofs.BoxLemmas.{IsPlaced, place_here, place_out, place_back, taken_placed, back_placed}
use Rattle.tl_desk.proofs.TicketLemmas.{clash, live_found, one_window, one_watch, none_of_managers, none_of_monitors, ticket_ends, watch_ticket_ends, ticket_comes, watch_ticket_comes, tickets_rest}

-- A window with a live ticket is there.
pub live_there : {S R : Type 0} (piece : Option (Piece S R)) (ticket : ℕ) → live_of piece ≡ Some ticket → is_some piece ≡ true
live_there None ticket is = absurd (let never : None ≡ Some ticket = is in cc)
live_there (Some p) ticket is = refl

-- A desk whose log is as it was.
pub sound_with : (old : Core) (windows : WatchesData) (boxes : BoxesData) (after : TicketsData) → IsSound old → windows.spans.log ≡ log_of old → AreAttached (standing old) boxes → AreKnown (standing old) boxes
    → HoldsTickets (log_of old) windows.spans.board windows.board boxes after → HaveEnded (log_of old) boxes → IsSound (record { windows = windows; boxes = boxes; reports = old.reports; tickets = after })
sound_with old windows boxes after sound log attached known holds ends = record {
  attached = subst (λ (l : LogData). AreAttached (inputs_after l.topo l.edits) boxes) (sym log) attached;
  known = subst (λ (l : LogData). AreKnown (inputs_after l.topo l.edits) boxes) (sym log) known;
  reports = subst (λ (l : LogData). AllByRecursion (IsOf l) old.reports) (sym log) sound.reports;
  versions = sound.versions;
  few = sound.few;
  tickets = subst (λ (l : LogData). HoldsTickets l windows.spans.board windows.board boxes after) (sym log) holds;
  ends = subst (λ (l : LogData). HaveEnded l boxes) (sym log) ends;
}

pub rest_is : (old : Core) (windows : WatchesData) (after want : TicketsData) → windows.board ≡ old.windows.board → after ≡ want
    → record { windows = windows; boxes = old.boxes; reports = old.reports; tickets = after } ≡ record (with_spans windows.spans old) { tickets = want }
rest_is old windows after want board is =
    ap (λ b. record { windows = record { spans = windows.spans; board = b }; boxes = old.boxes; reports = old.reports; tickets = after }) board
    ∙ ap (λ t. record { windows = record { spans = windows.spans; board = old.windows.board }; boxes = old.boxes; reports = old.reports; tickets = t }) is

-- ---- a window that loses its ticket

module _ {S R : Type 0} where
  -- The ticket is not the window's any more, and no other window has got one.
  pub record IsQuiet (old new : Board S R) (key : PieceKey) (ticket : ℕ) : Type 0 where
    pub stays : (q : PieceKey) (t : ℕ) → live_of (piece_at q new) ≡ Some t → live_of (piece_at q old) ≡ Some t
    pub gone : live_of (piece_at key new) ≡ Some ticket → ⊥

  module _ (old new : Board S R) (key : PieceKey) (f : Piece S R → Piece S R) (quiet : (p : Piece S R) → (f p).live ≡ None) (is : new ≡ with_pieces old (change key f old.pieces)) where
    found : (q : PieceKey) (t : ℕ) → live_of (piece_at q new) ≡ Some t → ((q ≡ key) × (None ≡ Some t)) ⊎ ((q ≡ key → ⊥) × (live_of (piece_at q old) ≡ Some t))
    found q t has = live_found old new key f is None quiet q t has

    pub quieted : (ticket : ℕ) → IsQuiet old new key ticket
    quieted ticket = record {
      stays = λ q t has. still q t (found q t has);
      gone = λ has. none (found key ticket has);
    }
      where
        still : (q : PieceKey) (t : ℕ) → ((q ≡ key) × (None ≡ Some t)) ⊎ ((q ≡ key → ⊥) × (live_of (piece_at q old) ≡ Some t)) → live_of (piece_at q old) ≡ Some t
        still q t (inl h) = absurd (clash None t refl h.1)
        still q t (inr h) = h.1

        none : ((key ≡ key) × (None ≡ Some ticket)) ⊎ ((key ≡ key → ⊥) × (live_of (piece_at key old) ≡ Some ticket)) → ⊥
        none (inl h) = clash None ticket refl h.1
        none (inr h) = h.0 refl

  pub quiet_still : (old new : Board S R) (key : PieceKey) (ticket : ℕ) → (live_of (piece_at key old) ≡ Some ticket → ⊥) → new ≡ old → IsQuiet old new key ticket
  quiet_still old new key ticket not same = record {
    stays = λ q t has. ap (λ (b : Board S R). live_of (piece_at q b)) (sym same) ∙ has;
    gone = λ has. not (ap (λ (b : Board S R). live_of (piece_at key b)) (sym same) ∙ has);
  }

-- ---- windows of managers

pub unmarked : (old new : SpansData) (key : PieceKey) (ticket : ℕ) → Unmarks old key ticket new → IsQuiet old.board new.board key ticket
unmarked old new key ticket (inl h) = quieted old.board new.board key (with_live None) (λ p. refl) (ap (λ (s : SpansData). s.board) h.1) ticket
unmarked old new key ticket (inr h) = quiet_still old.board new.board key ticket h.0 (ap (λ (s : SpansData). s.board) h.1)

pub unmarked_log : (old new : SpansData) (key : PieceKey) (ticket : ℕ) → Unmarks old key ticket new → new.log ≡ old.log
unmarked_log old new key ticket (inl h) = ap (λ (s : SpansData). s.log) h.1
unmarked_log old new key ticket (inr h) = ap (λ (s : SpansData). s.log) h.1

pub handed_in : (old new : SpansData) (key : PieceKey) (ticket : ℕ) (result : Pass SpanState (List Row)) → HandsIn old key result new → IsQuiet old.board new.board key ticket
handed_in old new key ticket result (inl h) = quieted old.board new.board key (with_checked result) (λ p. refl) (ap (λ (s : SpansData). s.board) h.1) ticket
handed_in old new key ticket result (inr h) = quieted old.board new.board key (with_live None) (λ p. refl) (ap (λ (s : SpansData). s.board) h.1) ticket

pub handed_in_log : (old new : SpansData) (key : PieceKey) (result : Pass SpanState (List Row)) → HandsIn old key result new → new.log ≡ old.log
handed_in_log old new key result (inl h) = ap (λ (s : SpansData). s.log) h.1
handed_in_log old new key result (inr h) = ap (λ (s : SpansData). s.log) h.1

module _ (old : Core) (sound : IsSound old) where
  -- The windows of monitors are as they were.
  same_board : (windows : WatchesData) (boxes : BoxesData) (after : TicketsData) → windows.board ≡ old.windows.board → HoldsTickets (log_of old) windows.spans.board old.windows.board boxes after
      → HoldsTickets (log_of old) windows.spans.board windows.board boxes after
  same_board windows boxes after board holds = subst (λ (b : Board Tally (List Row)). HoldsTickets (log_of old) windows.spans.board b boxes after) (sym board) holds

  -- The windows of managers are as they were.
  same_spans : (windows : WatchesData) (boxes : BoxesData) (after : TicketsData) → windows.spans ≡ old.windows.spans → HoldsTickets (log_of old) old.windows.spans.board windows.board boxes after
      → HoldsTickets (log_of old) windows.spans.board windows.board boxes after
  same_spans windows boxes after spans holds = subst (λ (s : SpansData). HoldsTickets (log_of old) s.board windows.board boxes after) (sym spans) holds

  -- A desk at which the ticket of a job ends.
  pub sound_ended : (job : JobData) (windows : WatchesData) (after : TicketsData) → IsOutFor job.ticket (piece_of job) old.tickets.out → windows.spans.log ≡ log_of old
      → IsQuiet old.windows.spans.board windows.spans.board (key_for job) job.ticket → windows.board ≡ old.windows.board → after ≡ ended job.ticket old.tickets → AreTickets after
      → IsSound (record { windows = windows; boxes = old.boxes; reports = old.reports; tickets = after })
  sound_ended job windows after out log quiet board is are =
      sound_with old windows old.boxes after sound log sound.attached sound.known
      (same_board windows old.boxes after board
      (ticket_ends (log_of old) old.windows.spans.board old.windows.board old.boxes old.tickets sound.tickets windows.spans.board (key_for job) job.ticket after out is are quiet.stays quiet.gone))
      sound.ends

  -- A desk at which the ticket of a window of a manager is called back.
  pub sound_recalled : (key : PieceKey) (ticket : ℕ) (windows : WatchesData) → windows.spans.log ≡ log_of old → IsQuiet old.windows.spans.board windows.spans.board key ticket → windows.board ≡ old.windows.board
      → IsSound (record { windows = windows; boxes = old.boxes; reports = old.reports; tickets = old.tickets })
  sound_recalled key ticket windows log quiet board =
      sound_with old windows old.boxes old.tickets sound log sound.attached sound.known
      (same_board windows old.boxes old.tickets board
      (tickets_rest (log_of old) old.windows.spans.board old.windows.board old.boxes old.tickets sound.tickets windows.spans.board old.windows.board quiet.stays (λ q t live. live)))
      sound.ends

  -- A desk at which the next ticket is given for a window of a manager.
  pub sound_taken : (key : PieceKey) (taken : Taken) (windows : WatchesData) (after : TicketsData) → taken.piece ≡ window_of key → taken.edits ≡ length (log_of old).edits → after ≡ given taken.piece taken.edits old.tickets → AreTickets after
      → windows ≡ record old.windows { spans = marked key (Some (old.tickets.last + 1)) old.windows.spans } → IsSound (record { windows = windows; boxes = old.boxes; reports = old.reports; tickets = after })
  sound_taken key taken windows after window edits is are made =
      sound_with old windows old.boxes after sound (ap (λ (w : WatchesData). w.spans.log) made) sound.attached sound.known
      (same_board windows old.boxes after (ap (λ (w : WatchesData). w.board) made)
      (ticket_comes (log_of old) old.windows.spans.board old.windows.board old.boxes old.tickets sound.tickets key taken edits after is windows.spans.board window are (ap (λ (w : WatchesData). w.spans.board) made)))
      sound.ends

  -- ---- windows of monitors

  -- A desk at which the next ticket is given for a window of a monitor, with the monitor.
  pub sound_left : (key : PieceKey) (held : Held) (taken : Taken) (windows : WatchesData) (boxes : BoxesData) (after : TicketsData) → taken.piece ≡ watch_window_of key → taken.edits ≡ length (log_of old).edits
      → after ≡ given taken.piece taken.edits old.tickets → AreTickets after → windows ≡ marked_watch key (Some (old.tickets.last + 1)) old.windows → held_at key.owner old.boxes.slots ≡ Some held
      → boxes ≡ taken_at key.owner (old.tickets.last + 1) old.boxes → IsSound (record { windows = windows; boxes = boxes; reports = old.reports; tickets = after })
  sound_left key held taken windows boxes after window edits is are made here goes =
      sound_with old windows boxes after sound (ap (λ (w : WatchesData). w.spans.log) made) (λ n. ap (attached_watch n) goes ∙ taken_watches old.boxes key.owner n (old.tickets.last + 1) ∙ sound.attached n)
      (known_by key.owner (Some (Out away)) old.boxes boxes placed (standing old) (standing old) sound.known (λ n was. was) (λ _. sound.known key.owner (ap is_some place)))
      (same_spans windows boxes after (ap (λ (w : WatchesData). w.spans) made)
      (watch_ticket_comes (log_of old) old.windows.spans.board old.windows.board old.boxes old.tickets sound.tickets key taken edits after is windows.board boxes window are (ap (λ (w : WatchesData). w.board) made)
      (ap ticket_of place) (ticket_here key.owner (Some (Out away)) old.boxes boxes placed) (ticket_other key.owner (Some (Out away)) old.boxes boxes placed)))
      (ends_left (log_of old) key.owner (old.tickets.last + 1) held old.boxes boxes here goes sound.ends)
    where
      away : Away
      away = leaving (old.tickets.last + 1) held

      place : place_at key.owner old.boxes.slots ≡ Some (Here held)
      place = place_here (place_at key.owner old.boxes.slots) held here

      placed : IsPlaced key.owner (Some (Out away)) old.boxes boxes
      placed = taken_placed key.owner (old.tickets.last + 1) held old.boxes boxes here goes

  -- A desk at which the ticket of a job ends, whose monitor comes back.
  pub sound_back : (job : MonitorJobData) (windows : WatchesData) (boxes : BoxesData) (after : TicketsData) → IsOwn old job → IsBoxes old.boxes → windows.spans ≡ old.windows.spans
      → IsQuiet old.windows.board windows.board (watch_key_for job) job.ticket → boxes ≡ brought_back job.task.number job.task.held old.boxes → after ≡ ended job.ticket old.tickets → AreTickets after
      → IsSound (record { windows = windows; boxes = boxes; reports = old.reports; tickets = after })
  sound_back job windows boxes after own order spans quiet comes is are = go (away_at job.task.number old.boxes.slots) refl own.watch
    where
      none_of : (closing : Option ℕ) (held : Held) → ticket_of (place_back closing held) ≡ None
      none_of None held = refl
      none_of (Some edit) held = refl

      go : (out : Option Away) → away_at job.task.number old.boxes.slots ≡ out → option_map (λ (a : Away). a.taken) out ≡ Some job.task.held.watch
          → IsSound (record { windows = windows; boxes = boxes; reports = old.reports; tickets = after })
      go None at watch = absurd (let never : None ≡ Some job.task.held.watch = watch in cc)
      go (Some away) at watch =
          let left : away.taken ≡ job.task.held.watch = (let both : Some away.taken ≡ Some job.task.held.watch = watch in cc) in
          let back : Option Place = place_back away.closing (tuned (limit_of away.watch) job.task.held) in
          let placed : IsPlaced job.task.number back old.boxes boxes = back_placed job.task.number away job.task.held old.boxes boxes order.rises at comes in
          let place : place_at job.task.number old.boxes.slots ≡ Some (Out away) = place_out (place_at job.task.number old.boxes.slots) away at in
          sound_with old windows boxes after sound (ap (λ (s : SpansData). s.log) spans) (λ n. ap (attached_watch n) comes ∙ brought_back_watches old.boxes job.task.number n job.task.held away order at left ∙ sound.attached n)
          (known_by job.task.number back old.boxes boxes placed (standing old) (standing old) sound.known (λ n was. was) (λ _. sound.known job.task.number (ap is_some place)))
          (same_spans windows boxes after spans
          (watch_ticket_ends (log_of old) old.windows.spans.board old.windows.board old.boxes old.tickets sound.tickets windows.board (watch_key_for job) job.ticket boxes after own.out is are quiet.stays quiet.gone
          (ticket_here job.task.number back old.boxes boxes placed ∙ none_of away.closing (tuned (limit_of away.watch) job.task.held)) (ticket_other job.task.number back old.boxes boxes placed)))
          (ends_back (log_of old) job.task.number away job.task.held old.boxes boxes order at left comes (sound.known job.task.number (ap is_some place)).0 sound.ends)

  -- A desk at which the ticket of a window of a monitor is called back.
  pub sound_watch_recalled : (key : PieceKey) (ticket : ℕ) (windows : WatchesData) → windows.spans ≡ old.windows.spans → IsQuiet old.windows.board windows.board key ticket
      → IsSound (record { windows = windows; boxes = old.boxes; reports = old.reports; tickets = old.tickets })
  sound_watch_recalled key ticket windows spans quiet =
      sound_with old windows old.boxes old.tickets sound (ap (λ (s : SpansData). s.log) spans) sound.attached sound.known
      (same_spans windows old.boxes old.tickets spans
      (tickets_rest (log_of old) old.windows.spans.board old.windows.board old.boxes old.tickets sound.tickets old.windows.spans.board windows.board (λ q t live. live) quiet.stays))
      sound.ends

pub watch_unmarked : (old new : WatchesData) (key : PieceKey) (ticket : ℕ) → UnmarksWatch old key ticket new → IsQuiet old.board new.board key ticket
watch_unmarked old new key ticket (inl h) = quieted old.board new.board key (with_live None) (λ p. refl) (ap (λ (w : WatchesData). w.board) h.1) ticket
watch_unmarked old new key ticket (inr h) = quiet_still old.board new.board key ticket h.0 (ap (λ (w : WatchesData). w.board) h.1)

pub watch_unmarked_spans : (old new : WatchesData) (key : PieceKey) (ticket : ℕ) → UnmarksWatch old key ticket new → new.spans ≡ old.spans
watch_unmarked_spans old new key ticket (inl h) = ap (λ (w : WatchesData). w.spans) h.1
watch_unmarked_spans old new key ticket (inr h) = ap (λ (w : WatchesData). w.spans) h.1

pub watch_handed_in : (old new : WatchesData) (key : PieceKey) (ticket : ℕ) (result : Pass Tally (List Row)) → HandsInWatch old key result new → IsQuiet old.board new.board key ticket
watch_handed_in old new key ticket result (inl h) = quieted old.board new.board key (with_checked result) (λ p. refl) (ap (λ (w : WatchesData). w.board) h.1) ticket
watch_handed_in old new key ticket result (inr h) = quieted old.board new.board key (with_live None) (λ p. refl) (ap (λ (w : WatchesData). w.board) h.1) ticket

pub watch_handed_in_spans : (old new : WatchesData) (key : PieceKey) (result : Pass Tally (List Row)) → HandsInWatch old key result new → new.spans ≡ old.spans
watch_handed_in_spans old new key result (inl h) = ap (λ (w : WatchesData). w.spans) h.1
watch_handed_in_spans old new key result (inr h) = ap (λ (w : WatchesData). w.spans) h.1

-- ---- which tickets are live

module _ (core : Core) (sound : IsSound core) (ticket : ℕ) where
  -- One that isn't out is no window's.
  pub live_none : tickets.taken_at ticket core.tickets.out ≡ None → IsLive core ticket → ⊥
  live_none none (key, inl live) = let own = sound.tickets.live key ticket live in clash (tickets.taken_at ticket core.tickets.out) own.taken none own.is
  live_none none (key, inr live) = let own = sound.tickets.watched key ticket live in clash (tickets.taken_at ticket core.tickets.out) own.taken none own.is

  -- One that is out for a window can be live for that one alone.
  pub live_manager : (key : PieceKey) → IsOutFor ticket (window_of key) core.tickets.out → IsLive core ticket → IsLiveAt core.windows.spans key ticket
  live_manager key out (q, inl live) =
      subst (λ (k : PieceKey). IsLiveAt core.windows.spans k ticket) (one_window (log_of core) core.windows.spans.board core.windows.board core.boxes core.tickets sound.tickets key q ticket out live) live
  live_manager key out (q, inr live) = absurd (none_of_monitors (log_of core) core.windows.spans.board core.windows.board core.boxes core.tickets sound.tickets key q ticket out live)

  pub live_monitor : (key : PieceKey) → IsOutFor ticket (watch_window_of key) core.tickets.out → IsLive core ticket → IsLiveAtWatch core.windows key ticket
  live_monitor key out (q, inl live) = absurd (none_of_managers (log_of core) core.windows.spans.board core.windows.board core.boxes core.tickets sound.tickets key q ticket out live)
  live_monitor key out (q, inr live) =
      subst (λ (k : PieceKey). IsLiveAtWatch core.windows k ticket) (one_watch (log_of core) core.windows.spans.board core.windows.board core.boxes core.tickets sound.tickets key q ticket out live) live

-- ---- the steps of jobs that come back

-- The monitor of the job is the one that is out.
pub own_back : (core : Core) (job : MonitorJobData) (number : ℕ) (held : Held) → IsOwn core job → number ≡ job.task.number → held ≡ job.task.held → IsSomeAnd (away_at number core.boxes.slots) (λ (away : Away). away.taken ≡ held.watch)
own_back core job number held own is same =
    subst (λ n. IsSomeAnd (away_at n core.boxes.slots) (λ (away : Away). away.taken ≡ held.watch)) (sym is)
    (subst (λ (h : Held). IsSomeAnd (away_at job.task.number core.boxes.slots) (λ (away : Away). away.taken ≡ h.watch)) (sym same) (go (away_at job.task.number core.boxes.slots) own.watch))
  where
    go : (out : Option Away) → option_map (λ (a : Away). a.taken) out ≡ Some job.task.held.watch → IsSomeAnd out (λ (away : Away). away.taken ≡ job.task.held.watch)
    go None h = absurd (let never : None ≡ Some job.task.held.watch = h in cc)
    go (Some a) h = let both : Some a.taken ≡ Some job.task.held.watch = h in cc

pub hand_step : {M : Type 0} (old : Core) (done : Done M) (found : HandIn M) (new : Core) → HandsBack old done found new → HandInStep old done found new
hand_step old (a_done.Manager d) answer.Taken new h = (d, (refl, refl, refl), h)
hand_step old (a_done.Manager d) answer.Void new h = (d, (refl, refl, refl), h.0, h.1)
hand_step old (a_done.Manager d) (answer.Stranger same) new h = h.2
hand_step old (a_done.Monitor d) answer.Taken new h = (d, (refl, refl, refl), h)
hand_step old (a_done.Monitor d) answer.Void new h = (d, (refl, refl, refl), h.0, h.1)
hand_step old (a_done.Monitor d) (answer.Stranger same) new h = h.2

-- A monitor that is here has the watch that stands.
pub here_watch : (core : Core) (number : ℕ) (held : Held) (w : Watch) → IsSound core → held_at number core.boxes.slots ≡ Some held → watch_at number (standing core).monitors ≡ Some w → held.watch ≡ w
here_watch core number held w sound here stands =
    let place : place_at number core.boxes.slots ≡ Some (Here held) = place_here (place_at number core.boxes.slots) held here in
    let both : Some held.watch ≡ Some w = sym (ap (λ o. option_and_then watch_of_place o) place) ∙ sound.attached number ∙ stands in
    cc

-- The task with its monitor is that of the window.
pub whole_task : (watches : WatchesData) (key : PieceKey) (task : WatchWindowData) (held : Held) → held.watch ≡ task.watch → IsWatchTaskFor watches key task → IsWatchTaskFor watches key (without_monitor (with_monitor task held))
whole_task watches key task held same is =
    subst (λ (w : Watch). IsWatchTaskFor watches key (record { number = task.number; window = task.window; watch = w; beats = task.beats; entry = task.entry })) (sym same) is
