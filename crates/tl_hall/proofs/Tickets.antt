-- What each call makes of the live tickets of a desk.
use Rattle.std.proofs.Common.{◌≡◌, ℕ, ◌+◌, ◌<◌, ◌≤◌, ◌⊎◌, inl, inr, true, false, cond, Bool, List, [], ◌∷◌, Option, Some, None, length, refl, sym, ap, subst, ◌∙◌, arith, Ordering, Equal, Less, Greater}
use Rattle.std.specs.Prelude.{option_map}
use Rattle.std.specs.Ordering.{is_eq, match_ordering}
use Rattle.std.specs.BTreeMap.{insert_entry, is_at}
use Rattle.std.specs.Map.{lookup, remove_entry}
use Rattle.tl_beats.specs.declared.Row.{Row}
use Rattle.tl_edits.specs.Edits.{AnEdit}
use Rattle.tl_desk.specs.JobData.{JobData, DoneData}
use Rattle.tl_desk.specs.MonitorJobs.{MonitorJobData, MonitorDoneData}
use Rattle.tl_pieces.specs.declared.key.PieceKey.{PieceKey}
use Rattle.tl_pieces.specs.Keys.{key_cmp, change}
use Rattle.tl_pieces.specs.Pieces.{Board, Pass, Piece, piece_at, live_of, with_live, with_pieces}
use Rattle.tl_pieces.proofs.KeyLemmas.{key_exact, key_self}
use Rattle.tl_topology.specs.Topology.{Topology}
use Rattle.tl_check.specs.declared.state.SpanState.{SpanState}
use Rattle.tl_board.specs.Spans.{SpansData, standing}
use Rattle.tl_board.specs.Tickets.{HandsIn}
use Rattle.tl_board.specs.Touch.{Touches}
use Rattle.tl_board.specs.Windows.{with_checked, key_of}
use Rattle.tl_board.proofs.CheckLemmas.{lookup_change}
use Rattle.tl_desk.specs.declared.piece.Piece.{Piece as APiece}
use Rattle.tl_desk.specs.declared.piece.Piece.TheVariants as piece
use Rattle.tl_desk.specs.declared.tickets.Taken.{Taken}
use Rattle.tl_desk.specs.TicketData.{taken_at, most_tickets}
use Rattle.tl_board.specs.declared.tally.Tally.{Tally}
use Rattle.tl_board.specs.Outside.{HandsInWatch}
use Rattle.tl_board.specs.TouchedWatches.{TouchesWatch}
use Rattle.tl_board.specs.Watches.{WatchesData}
use Rattle.tl_desk.specs.Core.{Core, IsNew, log_of}
use Rattle.tl_desk.specs.Tickets.{window_of, watch_window_of}
use Rattle.tl_desk.specs.Jobs.{Takes, TakesWatch, Accepts, AcceptsWatch, Ends, EndsWatch, Recalls, RecallsWatch, Unmarks, UnmarksWatch, key_for, watch_key_for, ended, given}
use Rattle.tl_desk.specs.declared.call.Start.{Start}
use Rattle.tl_desk.specs.declared.call.Outcome.{Outcome}
use Rattle.tl_desk.specs.Steps.{Edits, TakesPiece, HandsInPiece, AbandonsPiece}

-- a window of a manager, or one of a monitor
pub data Window : Type 0 where
  OfManager : PieceKey → Window
  OfMonitor : PieceKey → Window

-- the live ticket of a window
abbrev pub live_at : Window → WatchesData → Option ℕ
live_at (OfManager key) windows = live_of (piece_at key windows.spans.board)
live_at (OfMonitor key) windows = live_of (piece_at key windows.board)

-- No window has got a ticket that it hadn't.
abbrev pub IsQuiet : WatchesData → WatchesData → Type 0
IsQuiet old new = (q : Window) (t : ℕ) → live_at q new ≡ Some t → live_at q old ≡ Some t

pub clash : {X : Type 0} (o : Option X) (x : X) → o ≡ None → o ≡ Some x → ⊥
clash o x none some = let never : None ≡ Some x = sym none ∙ some in cc

pub one_value : {X : Type 0} (o : Option X) (x y : X) → o ≡ Some x → o ≡ Some y → x ≡ y
one_value o x y a b = let both : Some x ≡ Some y = sym a ∙ b in cc

-- ---- one board

-- The same of the windows of a board.
abbrev IsStill : {S R : Type 0} → Board S R → Board S R → Type 0
IsStill old new = (q : PieceKey) (t : ℕ) → live_of (piece_at q new) ≡ Some t → live_of (piece_at q old) ≡ Some t

same_still : {S R : Type 0} (old new : Board S R) → new ≡ old → IsStill old new
same_still {S} {R} old new is q t has = ap (λ (b : Board S R). live_of (piece_at q b)) (sym is) ∙ has

module _ {S R : Type 0} (old new : Board S R) (key : PieceKey) (f : Piece S R → Piece S R) (is : new ≡ with_pieces old (change key f old.pieces)) where
  changed_at : (q : PieceKey) → piece_at q new ≡ cond (is_at (key_cmp q) key) (option_map f (piece_at q old)) (piece_at q old)
  changed_at q = ap (λ (b : Board S R). piece_at q b) is ∙ lookup_change key f q old.pieces

  -- Where the window gets a ticket, or none, each other window has its own.
  live_found : (live : Option ℕ) → ((p : Piece S R) → (f p).live ≡ live) → (q : PieceKey) (t : ℕ) → live_of (piece_at q new) ≡ Some t
      → ((q ≡ key) × (live ≡ Some t)) ⊎ ((q ≡ key → ⊥) × (live_of (piece_at q old) ≡ Some t))
  live_found live gets q t has = go (is_at (key_cmp q) key) refl (sym (ap live_of (changed_at q)) ∙ has)
    where
      mapped : (p : Option (Piece S R)) → live_of (option_map f p) ≡ Some t → live ≡ Some t
      mapped None h = absurd (let never : None ≡ Some t = h in cc)
      mapped (Some p) h = sym (gets p) ∙ h

      go : (b : Bool) → is_at (key_cmp q) key ≡ b → live_of (cond b (option_map f (piece_at q old)) (piece_at q old)) ≡ Some t
          → ((q ≡ key) × (live ≡ Some t)) ⊎ ((q ≡ key → ⊥) × (live_of (piece_at q old) ≡ Some t))
      go true test h = inl (key_exact q key test, mapped (piece_at q old) h)
      go false test h = inr ((λ same. let yes : is_at (key_cmp q) key ≡ true = subst (λ (k : PieceKey). is_at (key_cmp q) k ≡ true) same (ap is_eq (key_self q)) in let never : true ≡ false = sym yes ∙ test in cc), h)

  -- Where it gets none, no window has got one.
  quiet : ((p : Piece S R) → (f p).live ≡ None) → IsStill old new
  quiet gets q t has = go (live_found None gets q t has)
    where
      go : ((q ≡ key) × (None ≡ Some t)) ⊎ ((q ≡ key → ⊥) × (live_of (piece_at q old) ≡ Some t)) → live_of (piece_at q old) ≡ Some t
      go (inl h) = absurd (clash None t refl h.1)
      go (inr h) = h.1

  gone : ((p : Piece S R) → (f p).live ≡ None) → (t : ℕ) → live_of (piece_at key new) ≡ Some t → ⊥
  gone gets t has = go (live_found None gets key t has)
    where
      go : ((key ≡ key) × (None ≡ Some t)) ⊎ ((key ≡ key → ⊥) × (live_of (piece_at key old) ≡ Some t)) → ⊥
      go (inl h) = clash None t refl h.1
      go (inr h) = h.0 refl

  -- Where it gets a ticket, each window has this one there, or the one that it had.
  marked_one : (ticket : ℕ) → ((p : Piece S R) → (f p).live ≡ Some ticket) → (q : PieceKey) (t : ℕ) → live_of (piece_at q new) ≡ Some t → ((q ≡ key) × (t ≡ ticket)) ⊎ (live_of (piece_at q old) ≡ Some t)
  marked_one ticket gets q t has = go (live_found (Some ticket) gets q t has)
    where
      go : ((q ≡ key) × (Some ticket ≡ Some t)) ⊎ ((q ≡ key → ⊥) × (live_of (piece_at q old) ≡ Some t)) → ((q ≡ key) × (t ≡ ticket)) ⊎ (live_of (piece_at q old) ≡ Some t)
      go (inl h) = inl (h.0, one_value (Some ticket) t ticket h.1 refl)
      go (inr h) = inr h.1

-- ---- both boards

both_quiet : (old new : WatchesData) → IsStill old.spans.board new.spans.board → IsStill old.board new.board → IsQuiet old new
both_quiet old new managers monitors (OfManager q) t has = managers q t has
both_quiet old new managers monitors (OfMonitor q) t has = monitors q t has

pub same_quiet : (old new : WatchesData) → new ≡ old → IsQuiet old new
same_quiet old new is q t has = ap (live_at q) (sym is) ∙ has

pub edited_quiet : (old : Core) (e : AnEdit) (number : ℕ) (new : Core) → Edits old e number new → IsQuiet old.windows new.windows
edited_quiet old e number new edits = both_quiet old.windows new.windows
    (λ q t has.
    let away : Touches (standing old.windows.spans) e q.owner q.window → ⊥ = (λ touches. clash (live_of (piece_at q new.windows.spans.board)) t (edits.windows.spans.ticket q touches) has) in
    ap live_of (sym (edits.windows.spans.stays q away)) ∙ has)
    (λ q t has.
    let away : TouchesWatch (standing old.windows.spans) e q.owner q.window → ⊥ = (λ touches. clash (live_of (piece_at q new.windows.board)) t (edits.windows.ticket q touches) has) in
    ap live_of (sym (edits.windows.stays q away)) ∙ has)

pub none_live : (topo : Topology) (core : Core) → IsNew topo core → (q : Window) (t : ℕ) → live_at q core.windows ≡ Some t → ⊥
none_live topo core fresh (OfManager q) t has =
    clash (live_at (OfManager q) core.windows) t (ap (λ (es : List (PieceKey × Piece SpanState (List Row))). live_of (lookup (is_at (key_cmp q)) es)) fresh.spans) has
none_live topo core fresh (OfMonitor q) t has =
    clash (live_at (OfMonitor q) core.windows) t (ap (λ (b : Board Tally (List Row)). live_of (piece_at q b)) fresh.watches) has

-- ---- a ticket is given

-- A window has the next ticket; all others have what they had.
pub record GivesOne (old : Core) (ticket : ℕ) (new : Core) : Type 0 where
  pub few : old.tickets.last < most_tickets
  pub next : ticket ≡ old.tickets.last + 1
  pub window_is : APiece
  pub tickets : new.tickets ≡ given window_is (length (log_of old).edits) old.tickets
  pub log : log_of new ≡ log_of old
  pub reports : new.reports ≡ old.reports
  pub window : Window
  pub live : (q : Window) (t : ℕ) → live_at q new.windows ≡ Some t → ((q ≡ window) × (t ≡ ticket)) ⊎ (live_at q old.windows ≡ Some t)

-- a window of a board among all windows
among : {A : Type 0} (W : PieceKey → Window) (q key : PieceKey) (t ticket : ℕ) → ((q ≡ key) × (t ≡ ticket)) ⊎ A → ((W q ≡ W key) × (t ≡ ticket)) ⊎ A
among W q key t ticket (inl h) = inl (ap W h.0, h.1)
among W q key t ticket (inr h) = inr h

takes_live : (old : Core) (ticket : ℕ) (key : PieceKey) (new : Core) → Takes old ticket key new → (q : Window) (t : ℕ) → live_at q new.windows ≡ Some t
    → ((q ≡ OfManager key) × (t ≡ ticket)) ⊎ (live_at q old.windows ≡ Some t)
takes_live old ticket key new s (OfManager q) t has =
    among OfManager q key t ticket (marked_one old.windows.spans.board new.windows.spans.board key (with_live (Some ticket)) (ap (λ (c : Core). c.windows.spans.board) s.rest) ticket (λ p. refl) q t has)
takes_live old ticket key new s (OfMonitor q) t has = inr (same_still old.windows.board new.windows.board (ap (λ (c : Core). c.windows.board) s.rest) q t has)

takes_watch_live : (old : Core) (ticket : ℕ) (key : PieceKey) (new : Core) → TakesWatch old ticket key new → (q : Window) (t : ℕ) → live_at q new.windows ≡ Some t
    → ((q ≡ OfMonitor key) × (t ≡ ticket)) ⊎ (live_at q old.windows ≡ Some t)
takes_watch_live old ticket key new s (OfManager q) t has = inr (same_still old.windows.spans.board new.windows.spans.board (ap (λ (c : Core). c.windows.spans.board) s.rest) q t has)
takes_watch_live old ticket key new s (OfMonitor q) t has =
    among OfMonitor q key t ticket (marked_one old.windows.board new.windows.board key (with_live (Some ticket)) (ap (λ (c : Core). c.windows.board) s.rest) ticket (λ p. refl) q t has)

pub take_gives : (old : Core) (ticket : ℕ) (window_is : APiece) (from : Start) (new : Core) → TakesPiece old ticket window_is from new → GivesOne old ticket new
take_gives old ticket (piece.Manager owner window) from new s = record {
  few = s.0.few;
  next = s.0.next;
  window_is = window_of (key_of owner window);
  tickets = ap (λ (c : Core). c.tickets) s.0.rest;
  log = ap (λ (c : Core). log_of c) s.0.rest;
  reports = ap (λ (c : Core). c.reports) s.0.rest;
  window = OfManager (key_of owner window);
  live = takes_live old ticket (key_of owner window) new s.0;
}
take_gives old ticket (piece.Monitor number window) from new s = record {
  few = s.0.few;
  next = s.0.next;
  window_is = watch_window_of (key_of number window);
  tickets = ap (λ (c : Core). c.tickets) s.0.rest;
  log = ap (λ (c : Core). log_of c) s.0.rest;
  reports = ap (λ (c : Core). c.reports) s.0.rest;
  window = OfMonitor (key_of number window);
  live = takes_watch_live old ticket (key_of number window) new s.0;
}

-- ---- a ticket ends

-- A ticket that was out ends, and no window has got one.
pub record EndsOne (old new : Core) : Type 0 where
  pub ticket : ℕ
  pub taken : Taken
  pub out : taken_at ticket old.tickets.out ≡ Some taken
  pub tickets : new.tickets ≡ ended ticket old.tickets
  pub log : log_of new ≡ log_of old
  pub reports : new.reports ≡ old.reports
  pub quiet : IsQuiet old.windows new.windows

unmarked_still : (old new : SpansData) (key : PieceKey) (ticket : ℕ) → Unmarks old key ticket new → IsStill old.board new.board
unmarked_still old new key ticket (inl h) = quiet old.board new.board key (with_live None) (ap (λ (s : SpansData). s.board) h.1) (λ p. refl)
unmarked_still old new key ticket (inr h) = same_still old.board new.board (ap (λ (s : SpansData). s.board) h.1)

handed_still : (old new : SpansData) (key : PieceKey) (result : Pass SpanState (List Row)) → HandsIn old key result new → IsStill old.board new.board
handed_still old new key result (inl h) = quiet old.board new.board key (with_checked result) (ap (λ (s : SpansData). s.board) h.1) (λ p. refl)
handed_still old new key result (inr h) = quiet old.board new.board key (with_live None) (ap (λ (s : SpansData). s.board) h.1) (λ p. refl)

unmarked_watch : (old new : WatchesData) (key : PieceKey) (ticket : ℕ) → UnmarksWatch old key ticket new → IsStill old.board new.board × (new.spans ≡ old.spans)
unmarked_watch old new key ticket (inl h) = (quiet old.board new.board key (with_live None) (ap (λ (w : WatchesData). w.board) h.1) (λ p. refl), ap (λ (w : WatchesData). w.spans) h.1)
unmarked_watch old new key ticket (inr h) = (same_still old.board new.board (ap (λ (w : WatchesData). w.board) h.1), ap (λ (w : WatchesData). w.spans) h.1)

handed_watch : (old new : WatchesData) (key : PieceKey) (result : Pass Tally (List Row)) → HandsInWatch old key result new → IsStill old.board new.board × (new.spans ≡ old.spans)
handed_watch old new key result (inl h) = (quiet old.board new.board key (with_checked result) (ap (λ (w : WatchesData). w.board) h.1) (λ p. refl), ap (λ (w : WatchesData). w.spans) h.1)
handed_watch old new key result (inr h) = (quiet old.board new.board key (with_live None) (ap (λ (w : WatchesData). w.board) h.1) (λ p. refl), ap (λ (w : WatchesData). w.spans) h.1)

unmarked_log : (old new : SpansData) (key : PieceKey) (ticket : ℕ) → Unmarks old key ticket new → new.log ≡ old.log
unmarked_log old new key ticket (inl h) = ap (λ (s : SpansData). s.log) h.1
unmarked_log old new key ticket (inr h) = ap (λ (s : SpansData). s.log) h.1

handed_log : (old new : SpansData) (key : PieceKey) (result : Pass SpanState (List Row)) → HandsIn old key result new → new.log ≡ old.log
handed_log old new key result (inl h) = ap (λ (s : SpansData). s.log) h.1
handed_log old new key result (inr h) = ap (λ (s : SpansData). s.log) h.1

job_ends : (old : Core) (job : JobData) (new : Core) → Ends old job new → EndsOne old new
job_ends old job new ends = record {
  ticket = job.ticket;
  taken = ends.out.0;
  out = ends.out.1;
  tickets = ap (λ (c : Core). c.tickets) ends.rest;
  log = unmarked_log old.windows.spans new.windows.spans (key_for job) job.ticket ends.spans;
  reports = ap (λ (c : Core). c.reports) ends.rest;
  quiet = both_quiet old.windows new.windows (unmarked_still old.windows.spans new.windows.spans (key_for job) job.ticket ends.spans) (same_still old.windows.board new.windows.board (ap (λ (c : Core). c.windows.board) ends.rest));
}

watch_ends : (old : Core) (job : MonitorJobData) (new : Core) → EndsWatch old job new → EndsOne old new
watch_ends old job new ends =
    let made = unmarked_watch old.windows new.windows (watch_key_for job) job.ticket ends.windows in
    record {
      ticket = job.ticket;
      taken = ends.own.out.0;
      out = ends.own.out.1;
      tickets = ap (λ (c : Core). c.tickets) ends.rest;
      log = ap (λ (s : SpansData). s.log) made.1;
      reports = ap (λ (c : Core). c.reports) ends.rest;
      quiet = both_quiet old.windows new.windows (same_still old.windows.spans.board new.windows.spans.board (ap (λ (s : SpansData). s.board) made.1)) made.0;
    }

accepted_ends : (old : Core) (done : DoneData) (new : Core) → Accepts old done new → EndsOne old new
accepted_ends old done new accepts = record {
  ticket = done.job.ticket;
  taken = accepts.out.0;
  out = accepts.out.1;
  tickets = ap (λ (c : Core). c.tickets) accepts.rest;
  log = handed_log old.windows.spans new.windows.spans (key_for done.job) done.result accepts.spans;
  reports = ap (λ (c : Core). c.reports) accepts.rest;
  quiet = both_quiet old.windows new.windows (handed_still old.windows.spans new.windows.spans (key_for done.job) done.result accepts.spans) (same_still old.windows.board new.windows.board (ap (λ (c : Core). c.windows.board) accepts.rest));
}

accepted_watch_ends : (old : Core) (done : MonitorDoneData) (new : Core) → AcceptsWatch old done new → EndsOne old new
accepted_watch_ends old done new accepts =
    let made = handed_watch old.windows new.windows (watch_key_for done.job) done.result accepts.windows in
    record {
      ticket = done.job.ticket;
      taken = accepts.own.out.0;
      out = accepts.own.out.1;
      tickets = ap (λ (c : Core). c.tickets) accepts.rest;
      log = ap (λ (s : SpansData). s.log) made.1;
      reports = ap (λ (c : Core). c.reports) accepts.rest;
      quiet = both_quiet old.windows new.windows (same_still old.windows.spans.board new.windows.spans.board (ap (λ (s : SpansData). s.board) made.1)) made.0;
    }

pub hand_in_ends : (old : Core) (ticket : ℕ) (window_is : APiece) (found : Outcome) (taken : Bool) (new : Core) → HandsInPiece old ticket window_is found taken new → EndsOne old new
hand_in_ends old ticket (piece.Manager owner window) found true new s = accepted_ends old s.0 new s.2
hand_in_ends old ticket (piece.Manager owner window) found false new s = job_ends old s.0.job new s.3
hand_in_ends old ticket (piece.Monitor number window) found true new s = accepted_watch_ends old s.0 new s.2
hand_in_ends old ticket (piece.Monitor number window) found false new s = watch_ends old s.0.job new s.3

pub abandon_ends : (old : Core) (ticket : ℕ) (window_is : APiece) (new : Core) → AbandonsPiece old ticket window_is new → EndsOne old new
abandon_ends old ticket (piece.Manager owner window) new s = job_ends old s.0 new s.3
abandon_ends old ticket (piece.Monitor number window) new s = watch_ends old s.0 new s.3

-- ---- a ticket is called back

-- A window has its ticket no more, and no window has got one.
pub record CallsBack (old : Core) (ticket : ℕ) (new : Core) : Type 0 where
  pub window : Window
  pub live : live_at window old.windows ≡ Some ticket
  pub tickets : new.tickets ≡ old.tickets
  pub log : log_of new ≡ log_of old
  pub reports : new.reports ≡ old.reports
  pub quiet : IsQuiet old.windows new.windows
  pub gone : (t : ℕ) → live_at window new.windows ≡ Some t → ⊥

pub recall_calls : (old : Core) (ticket : ℕ) (new : Core) → Recalls old ticket new ⊎ RecallsWatch old ticket new → CallsBack old ticket new
recall_calls old ticket new (inl r) =
    let managers = ap (λ (c : Core). c.windows.spans.board) r.rest in
    record {
      window = OfManager r.key;
      live = r.live;
      tickets = ap (λ (c : Core). c.tickets) r.rest;
      log = ap (λ (c : Core). log_of c) r.rest;
      reports = ap (λ (c : Core). c.reports) r.rest;
      quiet = both_quiet old.windows new.windows (quiet old.windows.spans.board new.windows.spans.board r.key (with_live None) managers (λ p. refl)) (same_still old.windows.board new.windows.board (ap (λ (c : Core). c.windows.board) r.rest));
      gone = gone old.windows.spans.board new.windows.spans.board r.key (with_live None) managers (λ p. refl);
    }
recall_calls old ticket new (inr r) =
    let monitors = ap (λ (c : Core). c.windows.board) r.rest in
    record {
      window = OfMonitor r.key;
      live = r.live;
      tickets = ap (λ (c : Core). c.tickets) r.rest;
      log = ap (λ (c : Core). log_of c) r.rest;
      reports = ap (λ (c : Core). c.reports) r.rest;
      quiet = both_quiet old.windows new.windows (same_still old.windows.spans.board new.windows.spans.board (ap (λ (c : Core). c.windows.spans.board) r.rest)) (quiet old.windows.board new.windows.board r.key (with_live None) monitors (λ p. refl));
      gone = gone old.windows.board new.windows.board r.key (with_live None) monitors (λ p. refl);
    }

-- ---- those that are out

pub one_less : {X : Type 0} (test : ℕ → Bool) (es : List (ℕ × X)) (x : X) → lookup test es ≡ Some x → length (remove_entry test es) + 1 ≡ length es
one_less test [] x found = absurd (let never : None ≡ Some x = found in cc)
one_less test (e ∷ es) x found = go (one_less test es x) (test e.0) found
  where
    go : (lookup test es ≡ Some x → length (remove_entry test es) + 1 ≡ length es) → (b : Bool) → cond b (Some e.1) (lookup test es) ≡ Some x → length (cond b es (e ∷ remove_entry test es)) + 1 ≡ length (e ∷ es)
    go later true h = omega arith
    go later false h = let rest : length (remove_entry test es) + 1 ≡ length es = later h in omega (arith, rest)

pub one_more : {X : Type 0} (cmp : ℕ → ℕ → Ordering) (es : List (ℕ × X)) (k : ℕ) (x : X) → length (insert_entry cmp es k x) ≤ length es + 1
one_more cmp [] k x = omega arith
one_more cmp (e ∷ es) k x = go (one_more cmp es k x) (cmp k e.0)
  where
    go : length (insert_entry cmp es k x) ≤ length es + 1 → (o : Ordering) → length (match_ordering o ((k, x) ∷ e ∷ es) ((e.0, x) ∷ es) (e ∷ insert_entry cmp es k x)) ≤ length (e ∷ es) + 1
    go later Less = omega arith
    go later Equal = omega arith
    go later Greater = omega (arith, later)
