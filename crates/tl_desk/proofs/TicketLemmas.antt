-- Tickets that stay, that come, and that end.
use Rattle.std.proofs.Common.{◌≡◌, ℕ, ◌+◌, ◌≤◌, ◌⊎◌, inl, inr, true, false, cond, Bool, List, [], ◌∷◌, ◌++◌, Option, Some, None, length, take, refl, sym, ap, subst, ◌∙◌, arith}
use Rattle.std.specs.Prelude.{option_map}
use Rattle.std.specs.Ordering.{nat_cmp, is_eq}
use Rattle.std.specs.BTreeMap.{insert_entry, is_at}
use Rattle.std.specs.List.{Contains}
use Rattle.std.specs.Map.{keys_of, lookup, remove_entry}
use Rattle.std.proofs.lemmas.Cmp.{nat_cmp_total}
use Rattle.std.proofs.lemmas.List.{take-append-le, length-append}
use Rattle.std.proofs.lemmas.Map.{lookup-remove_entry}
use Rattle.std.proofs.lemmas.Map.Keys.{IsDistinct-from_sorted}
use Rattle.tl_beats.specs.declared.Row.{Row}
use Rattle.tl_monitor.specs.Boxes.{BoxesData}
use Rattle.tl_definitions.specs.Captures.{manager_beats}
use Rattle.tl_edits.specs.Edits.{AnEdit}
use Rattle.tl_edits.specs.Inputs.{InputData, watch_at, changed}
use Rattle.tl_edits.specs.Log.{LogData, inputs_after}
use Rattle.tl_pieces.specs.declared.key.PieceKey.{PieceKey}
use Rattle.tl_pieces.specs.Keys.{key_cmp, change}
use Rattle.tl_pieces.specs.Pieces.{Board, Piece, piece_at, live_of, with_live, with_pieces}
use Rattle.tl_pieces.proofs.KeyLemmas.{key_exact, key_self}
use Rattle.tl_check.specs.Captured.{areas_at}
use Rattle.tl_check.specs.States.{SameSpan}
use Rattle.tl_check.specs.declared.state.SpanState.{SpanState}
use Rattle.tl_board.specs.Edits.{EditsTo}
use Rattle.tl_board.specs.Recheck.{ChecksSome}
use Rattle.tl_board.specs.Spans.{SpansData, standing}
use Rattle.tl_board.specs.Touch.{Touches}
use Rattle.tl_board.proofs.CheckLemmas.{lookup_change}
use Rattle.tl_board.proofs.EditLemmas.{stands}
use Rattle.tl_board.proofs.EntryLemmas.{lookup_put}
use Rattle.tl_board.proofs.TouchLemmas.{untouched_beats, untouched_regions, regions_are_touched}
use Rattle.tl_desk.specs.declared.piece.Piece.{Piece as APiece}
use Rattle.tl_desk.specs.declared.piece.Piece.TheVariants as piece
use Rattle.tl_desk.specs.declared.tickets.Taken.{Taken}
use Rattle.tl_desk.specs.TicketData.{TicketsData, AreTickets, IsOutFor, taken_at}
use Rattle.tl_board.specs.declared.tally.Tally.{Tally}
use Rattle.tl_board.specs.Accepting.{EditsBoth}
use Rattle.tl_board.specs.Tally.{SameTally}
use Rattle.tl_board.specs.TouchedWatches.{TouchesWatch}
use Rattle.tl_board.specs.Watches.{WatchesData, beats_for}
use Rattle.tl_board.proofs.AfterLemmas.{same_watch, same_beats}
use Rattle.tl_capture.specs.Present.{IsPresent}
use Rattle.tl_capture.specs.Windows.{beats_in}
use Rattle.tl_desk.proofs.BoxLemmas.{nat_exact, number_self, number_apart, number_apart_back, number_equivalence, same_test, same_number}
use Rattle.tl_desk.specs.Tickets.{left_by, window_of, watch_window_of, ticket_away, IsSince, IsSinceWatch, IsLiveFor, IsLiveForWatch, HoldsTickets}

pub clash : {X : Type 0} (o : Option X) (x : X) → o ≡ None → o ≡ Some x → ⊥
clash o x none some = let never : None ≡ Some x = sym none ∙ some in cc

pub one_value : {X : Type 0} (o : Option X) (x y : X) → o ≡ Some x → o ≡ Some y → x ≡ y
one_value o x y a b = let both : Some x ≡ Some y = sym a ∙ b in cc

-- ---- over an edit

-- What the first edits leave is what they left.
left_more : (log new : LogData) (e : AnEdit) (n : ℕ) → new ≡ record log { edits = log.edits ++ e ∷ [] } → n ≤ length log.edits → left_by new n ≡ left_by log n
left_more log new e n is within = ap (λ (l : LogData). left_by l n) is ∙ ap (inputs_after log.topo) (take-append-le n log.edits (e ∷ []) within)

module _ (old : SpansData) (e : AnEdit) (new : SpansData) (edits : EditsTo old e new) (before : IsPresent (standing old).fragments) (after : IsPresent (standing new).fragments) where
  now_is : standing new ≡ changed (standing old) e
  now_is = stands old e new.log new.board edits.log

  present : IsPresent (changed (standing old) e).fragments
  present = subst (λ (i : InputData). IsPresent i.fragments) now_is after

  within_more : (n : ℕ) → n ≤ length old.log.edits → n ≤ length new.log.edits
  within_more n within =
      let more : length new.log.edits ≡ length old.log.edits + 1 = ap (λ (l : LogData). length l.edits) edits.log ∙ length-append old.log.edits (e ∷ []) in
      omega (arith, within, more)

  -- A window that is not touched is what it was.
  since_more : (owner window n : ℕ) → (Touches (standing old) e owner window → ⊥) → IsSince old.log owner window n → IsSince new.log owner window n
  since_more owner window n untouched is =
      let left : left_by new.log n ≡ left_by old.log n = left_more old.log new.log e n edits.log is.within in
      record {
        within = within_more n is.within;
        regions = ap (λ (i : InputData). areas_at i.regions owner) now_is
            ∙ untouched_regions (standing old) e owner (λ h. untouched (regions_are_touched (standing old) e owner window h))
            ∙ is.regions
            ∙ sym (ap (λ (i : InputData). areas_at i.regions owner) left);
        beats = ap (λ (i : InputData). beats_in window (manager_beats i.topo i.fragments owner)) now_is
            ∙ untouched_beats (standing old) owner window e before present untouched
            ∙ is.beats
            ∙ sym (ap (λ (i : InputData). beats_in window (manager_beats i.topo i.fragments owner)) left);
      }

  watch_since_more : (number window n : ℕ) → (TouchesWatch (standing old) e number window → ⊥) → IsSinceWatch old.log number window n → IsSinceWatch new.log number window n
  watch_since_more number window n untouched is =
      let left : left_by new.log n ≡ left_by old.log n = left_more old.log new.log e n edits.log is.within in
      record {
        within = within_more n is.within;
        watch = ap (λ (i : InputData). watch_at number i.monitors) now_is
            ∙ same_watch (standing old) e before present number window untouched
            ∙ is.watch
            ∙ sym (ap (λ (i : InputData). watch_at number i.monitors) left);
        beats = ap (λ (i : InputData). beats_in window (beats_for i number)) now_is
            ∙ same_beats (standing old) e before present number window untouched
            ∙ is.beats
            ∙ sym (ap (λ (i : InputData). beats_in window (beats_for i number)) left);
      }

pub tickets_edited : (old : WatchesData) (e : AnEdit) (new : WatchesData) (boxes after_boxes : BoxesData) (tickets : TicketsData) → EditsBoth old e new → IsPresent (standing old.spans).fragments → IsPresent (standing new.spans).fragments
    → ((n : ℕ) → ticket_away n after_boxes ≡ ticket_away n boxes) → HoldsTickets old.spans.log old.spans.board old.board boxes tickets → HoldsTickets new.spans.log new.spans.board new.board after_boxes tickets
tickets_edited old e new boxes after_boxes tickets edits before after same holds = record {
  are = holds.are;
  live = λ key ticket live. live_still key ticket live;
  watched = λ key ticket live. watched_still key ticket live;
  away = λ number ticket out. holds.away number ticket (sym (same number) ∙ out);
  held = λ number window ticket out. same number ∙ holds.held number window ticket out;
}
  where
    live_still : (key : PieceKey) (ticket : ℕ) → live_of (piece_at key new.spans.board) ≡ Some ticket → IsLiveFor new.spans.log tickets.out key ticket
    live_still key ticket live =
        let away : Touches (standing old.spans) e key.owner key.window → ⊥ = (λ touches. clash (live_of (piece_at key new.spans.board)) ticket (edits.spans.ticket key touches) live) in
        let was : IsLiveFor old.spans.log tickets.out key ticket = holds.live key ticket (ap live_of (sym (edits.spans.stays key away)) ∙ live) in
        record { taken = was.taken; is = was.is; window = was.window; since = since_more old.spans e new.spans edits.spans before after key.owner key.window was.taken.edits away was.since }

    watched_still : (key : PieceKey) (ticket : ℕ) → live_of (piece_at key new.board) ≡ Some ticket → IsLiveForWatch new.spans.log tickets.out key ticket
    watched_still key ticket live =
        let away : TouchesWatch (standing old.spans) e key.owner key.window → ⊥ = (λ touches. clash (live_of (piece_at key new.board)) ticket (edits.ticket key touches) live) in
        let was : IsLiveForWatch old.spans.log tickets.out key ticket = holds.watched key ticket (ap live_of (sym (edits.stays key away)) ∙ live) in
        record { taken = was.taken; is = was.is; window = was.window; since = watch_since_more old.spans e new.spans edits.spans before after key.owner key.window was.taken.edits away was.since }

-- ---- over checks

pub tickets_checked : (old new : WatchesData) (boxes after_boxes : BoxesData) (tickets : TicketsData) → new.spans.log ≡ old.spans.log → ChecksSome SameSpan old.spans.board new.spans.board → ChecksSome SameTally old.board new.board
    → ((n : ℕ) → ticket_away n after_boxes ≡ ticket_away n boxes) → HoldsTickets old.spans.log old.spans.board old.board boxes tickets → HoldsTickets new.spans.log new.spans.board new.board after_boxes tickets
tickets_checked old new boxes after_boxes tickets log spans watches same holds = record {
  are = holds.are;
  live = λ key ticket live. live_still key ticket live;
  watched = λ key ticket live. watched_still key ticket live;
  away = λ number ticket out. holds.away number ticket (sym (same number) ∙ out);
  held = λ number window ticket out. same number ∙ holds.held number window ticket out;
}
  where
    live_still : (key : PieceKey) (ticket : ℕ) → live_of (piece_at key new.spans.board) ≡ Some ticket → IsLiveFor new.spans.log tickets.out key ticket
    live_still key ticket live =
        let away : Contains spans.0 key → ⊥ = (λ has. clash (live_of (piece_at key new.spans.board)) ticket (spans.1.tickets key has) live) in
        subst (λ (l : LogData). IsLiveFor l tickets.out key ticket) (sym log) (holds.live key ticket (ap live_of (sym (spans.1.stays key away)) ∙ live))

    watched_still : (key : PieceKey) (ticket : ℕ) → live_of (piece_at key new.board) ≡ Some ticket → IsLiveForWatch new.spans.log tickets.out key ticket
    watched_still key ticket live =
        let away : Contains watches.0 key → ⊥ = (λ has. clash (live_of (piece_at key new.board)) ticket (watches.1.tickets key has) live) in
        subst (λ (l : LogData). IsLiveForWatch l tickets.out key ticket) (sym log) (holds.watched key ticket (ap live_of (sym (watches.1.stays key away)) ∙ live))

-- ---- one window and one ticket

module _ {S R : Type 0} (old new : Board S R) (key : PieceKey) (f : Piece S R → Piece S R) (is : new ≡ with_pieces old (change key f old.pieces)) where
  changed_at : (q : PieceKey) → piece_at q new ≡ cond (is_at (key_cmp q) key) (option_map f (piece_at q old)) (piece_at q old)
  changed_at q = ap (λ (b : Board S R). piece_at q b) is ∙ lookup_change key f q old.pieces

  -- Where the window gets a ticket, or none, each other window has its own.
  pub live_found : (live : Option ℕ) → ((p : Piece S R) → (f p).live ≡ live) → (q : PieceKey) (ticket : ℕ) → live_of (piece_at q new) ≡ Some ticket
      → ((q ≡ key) × (live ≡ Some ticket)) ⊎ ((q ≡ key → ⊥) × (live_of (piece_at q old) ≡ Some ticket))
  live_found live gets q ticket has = go (is_at (key_cmp q) key) refl (sym (ap live_of (changed_at q)) ∙ has)
    where
      mapped : (p : Option (Piece S R)) → live_of (option_map f p) ≡ Some ticket → live ≡ Some ticket
      mapped None h = absurd (let never : None ≡ Some ticket = h in cc)
      mapped (Some p) h = sym (gets p) ∙ h

      go : (b : Bool) → is_at (key_cmp q) key ≡ b → live_of (cond b (option_map f (piece_at q old)) (piece_at q old)) ≡ Some ticket
          → ((q ≡ key) × (live ≡ Some ticket)) ⊎ ((q ≡ key → ⊥) × (live_of (piece_at q old) ≡ Some ticket))
      go true t h = inl (key_exact q key t, mapped (piece_at q old) h)
      go false t h = inr ((λ same. let yes : is_at (key_cmp q) key ≡ true = subst (λ (k : PieceKey). is_at (key_cmp q) k ≡ true) same (ap is_eq (key_self q)) in let never : true ≡ false = sym yes ∙ t in cc), h)

-- Two windows of managers that are one have one key, and so have two of monitors.
joined_key : (p q : PieceKey) → p.owner ≡ q.owner → p.window ≡ q.window → p ≡ q
joined_key p q owner window = ap (λ o. record { owner = o; window = p.window }) owner ∙ ap (λ w. record { owner = q.owner; window = w }) window

pub one_key : (p q : PieceKey) → window_of p ≡ window_of q → p ≡ q
one_key p q same = joined_key p q (let owner : p.owner ≡ q.owner = cc in owner) (let window : p.window ≡ q.window = cc in window)

pub one_watch_key : (p q : PieceKey) → watch_window_of p ≡ watch_window_of q → p ≡ q
one_watch_key p q same = joined_key p q (let owner : p.owner ≡ q.owner = cc in owner) (let window : p.window ≡ q.window = cc in window)

of_two_kinds : (owner window number other : ℕ) → piece.Manager owner window ≡ piece.Monitor number other → ⊥
of_two_kinds owner window number other same = cc

one_number : (n m w v : ℕ) → piece.Monitor n w ≡ piece.Monitor m v → n ≡ m
one_number n m w v same = cc

-- One ticket fewer is out, or one more.
pub record IsOutLess (ticket : ℕ) (out after : List (ℕ × Taken)) : Type 0 where
  pub gone : taken_at ticket after ≡ None
  pub others : (t : ℕ) → (ticket ≡ t → ⊥) → taken_at t after ≡ taken_at t out

pub record IsOutMore (ticket : ℕ) (taken : Taken) (out after : List (ℕ × Taken)) : Type 0 where
  pub fresh : taken_at ticket out ≡ None
  pub here : taken_at ticket after ≡ Some taken
  pub others : (t : ℕ) → (ticket ≡ t → ⊥) → taken_at t after ≡ taken_at t out

pub out_less : (ticket : ℕ) (tickets after : TicketsData) → AreTickets tickets → after ≡ record tickets { out = remove_entry (is_at (nat_cmp ticket)) tickets.out } → IsOutLess ticket tickets.out after.out
out_less ticket tickets after are is = record {
  gone = found ticket ∙ ap (λ b. cond b None (taken_at ticket tickets.out)) (number_self ticket);
  others = λ t apart. found t ∙ ap (λ b. cond b None (taken_at t tickets.out)) (number_apart ticket t apart);
}
  where
    found : (t : ℕ) → taken_at t after.out ≡ cond (is_at (nat_cmp ticket) t) None (taken_at t tickets.out)
    found t =
        ap (λ (x : TicketsData). taken_at t x.out) is
        ∙ lookup-remove_entry number_equivalence (is_at (nat_cmp ticket)) (same_test ticket) t tickets.out (IsDistinct-from_sorted nat_cmp (keys_of tickets.out) are.order)

pub out_more : (taken : Taken) (tickets after : TicketsData) → AreTickets tickets → after ≡ record { out = insert_entry nat_cmp tickets.out (tickets.last + 1) taken; last = tickets.last + 1 }
    → IsOutMore (tickets.last + 1) taken tickets.out after.out
out_more taken tickets after are is = record {
  fresh = unknown (taken_at (tickets.last + 1) tickets.out) refl;
  here = found (tickets.last + 1) ∙ ap (λ b. cond b (Some taken) (taken_at (tickets.last + 1) tickets.out)) (number_self (tickets.last + 1));
  others = λ t apart. found t ∙ ap (λ b. cond b (Some taken) (taken_at t tickets.out)) (number_apart_back (tickets.last + 1) t apart);
}
  where
    found : (t : ℕ) → taken_at t after.out ≡ cond (is_at (nat_cmp t) (tickets.last + 1)) (Some taken) (taken_at t tickets.out)
    found t = ap (λ (x : TicketsData). taken_at t x.out) is ∙ lookup_put nat_cmp nat_cmp_total nat_exact t (tickets.last + 1) taken tickets.out

    unknown : (o : Option Taken) → taken_at (tickets.last + 1) tickets.out ≡ o → taken_at (tickets.last + 1) tickets.out ≡ None
    unknown None h = h
    unknown (Some t) h = absurd (let low : tickets.last + 1 ≤ tickets.last = are.given (tickets.last + 1) t h in omega (arith, low))

-- What is said of one ticket.
still_for : (t : ℕ) (p : APiece) (out after : List (ℕ × Taken)) → taken_at t after ≡ taken_at t out → IsOutFor t p out → IsOutFor t p after
still_for t p out after same for = (for.0, same ∙ for.1, for.2)

still_live : (log : LogData) (key : PieceKey) (t : ℕ) (out after : List (ℕ × Taken)) → taken_at t after ≡ taken_at t out → IsLiveFor log out key t → IsLiveFor log after key t
still_live log key t out after same live = record { taken = live.taken; is = same ∙ live.is; window = live.window; since = live.since }

still_watched : (log : LogData) (key : PieceKey) (t : ℕ) (out after : List (ℕ × Taken)) → taken_at t after ≡ taken_at t out → IsLiveForWatch log out key t → IsLiveForWatch log after key t
still_watched log key t out after same live = record { taken = live.taken; is = same ∙ live.is; window = live.window; since = live.since }

-- One that is out for one window is out for no other.
one_piece : (t : ℕ) (p q : APiece) (out : List (ℕ × Taken)) → IsOutFor t p out → IsOutFor t q out → p ≡ q
one_piece t p q out a b = sym a.2 ∙ ap (λ (x : Taken). x.piece) (one_value (taken_at t out) a.0 b.0 a.1 b.1) ∙ b.2

live_for : (log : LogData) (out : List (ℕ × Taken)) (key : PieceKey) (t : ℕ) → IsLiveFor log out key t → IsOutFor t (window_of key) out
live_for log out key t live = (live.taken, live.is, live.window)

watched_for : (log : LogData) (out : List (ℕ × Taken)) (key : PieceKey) (t : ℕ) → IsLiveForWatch log out key t → IsOutFor t (watch_window_of key) out
watched_for log out key t live = (live.taken, live.is, live.window)

module _ (ticket : ℕ) (p : APiece) (out after : List (ℕ × Taken)) (less : IsOutLess ticket out after) (own : IsOutFor ticket p out) where
  -- A ticket for another window is another one.
  other_ticket : (t : ℕ) (q : APiece) → IsOutFor t q out → (p ≡ q → ⊥) → ticket ≡ t → ⊥
  other_ticket t q for differ same = differ (one_piece t p q out (subst (λ k. IsOutFor k p out) same own) for)

  kept_for : (t : ℕ) (q : APiece) → IsOutFor t q out → (p ≡ q → ⊥) → IsOutFor t q after
  kept_for t q for differ = still_for t q out after (less.others t (other_ticket t q for differ)) for

  was_for : (t : ℕ) (q : APiece) → IsOutFor t q after → (ticket ≡ t → ⊥) × IsOutFor t q out
  was_for t q for = (apart, (for.0, sym (less.others t apart) ∙ for.1, for.2))
    where
      apart : ticket ≡ t → ⊥
      apart same = clash (taken_at t after) for.0 (ap (λ k. taken_at k after) (sym same) ∙ less.gone) for.1

module _ (log : LogData) (managers : Board SpanState (List Row)) (monitors : Board Tally (List Row)) (boxes : BoxesData) (tickets : TicketsData) (holds : HoldsTickets log managers monitors boxes tickets) where
  -- A live ticket is that of one window.
  pub one_window : (key q : PieceKey) (ticket : ℕ) → IsOutFor ticket (window_of key) tickets.out → live_of (piece_at q managers) ≡ Some ticket → q ≡ key
  one_window key q ticket out live = one_key q key (one_piece ticket (window_of q) (window_of key) tickets.out (live_for log tickets.out q ticket (holds.live q ticket live)) out)

  pub one_watch : (key q : PieceKey) (ticket : ℕ) → IsOutFor ticket (watch_window_of key) tickets.out → live_of (piece_at q monitors) ≡ Some ticket → q ≡ key
  one_watch key q ticket out live = one_watch_key q key (one_piece ticket (watch_window_of q) (watch_window_of key) tickets.out (watched_for log tickets.out q ticket (holds.watched q ticket live)) out)

  pub none_of_managers : (key q : PieceKey) (ticket : ℕ) → IsOutFor ticket (watch_window_of key) tickets.out → live_of (piece_at q managers) ≡ Some ticket → ⊥
  none_of_managers key q ticket out live =
      of_two_kinds q.owner q.window key.owner key.window (one_piece ticket (window_of q) (watch_window_of key) tickets.out (live_for log tickets.out q ticket (holds.live q ticket live)) out)

  pub none_of_monitors : (key q : PieceKey) (ticket : ℕ) → IsOutFor ticket (window_of key) tickets.out → live_of (piece_at q monitors) ≡ Some ticket → ⊥
  none_of_monitors key q ticket out live =
      of_two_kinds key.owner key.window q.owner q.window (one_piece ticket (window_of key) (watch_window_of q) tickets.out out (watched_for log tickets.out q ticket (holds.watched q ticket live)))

  -- A ticket that is out for a window of a manager ends, which has it no more.
  pub ticket_ends : (new : Board SpanState (List Row)) (key : PieceKey) (ticket : ℕ) (after : TicketsData) → IsOutFor ticket (window_of key) tickets.out
      → after ≡ record tickets { out = remove_entry (is_at (nat_cmp ticket)) tickets.out } → AreTickets after
      → ((q : PieceKey) (t : ℕ) → live_of (piece_at q new) ≡ Some t → live_of (piece_at q managers) ≡ Some t) → (live_of (piece_at key new) ≡ Some ticket → ⊥)
      → HoldsTickets log new monitors boxes after
  ticket_ends new key ticket after own is are stays gone = record {
    are = are;
    live = λ q t live. still_live log q t tickets.out after.out (less.others t (parted q t live)) (holds.live q t (stays q t live));
    watched = λ q t live. still_watched log q t tickets.out after.out (less.others t (λ same. none_of_monitors key q t (subst (λ k. IsOutFor k (window_of key) tickets.out) same own) live)) (holds.watched q t live);
    away = λ n t out. (let was = holds.away n t out in (was.0, kept_for ticket (window_of key) tickets.out after.out less own t (piece.Monitor n was.0) was.1 (of_two_kinds key.owner key.window n was.0)));
    held = λ n w t out. holds.held n w t (was_for ticket (window_of key) tickets.out after.out less own t (piece.Monitor n w) out).1;
  }
    where
      less : IsOutLess ticket tickets.out after.out
      less = out_less ticket tickets after holds.are is

      parted : (q : PieceKey) (t : ℕ) → live_of (piece_at q new) ≡ Some t → ticket ≡ t → ⊥
      parted q t live same =
          let has : live_of (piece_at q new) ≡ Some ticket = live ∙ ap Some (sym same) in
          let here : q ≡ key = one_window key q ticket own (stays q ticket has) in
          gone (subst (λ (k : PieceKey). live_of (piece_at k new) ≡ Some ticket) here has)

  -- A ticket that is out for a window of a monitor ends, which has it no more, and the monitor is out no more.
  pub watch_ticket_ends : (new : Board Tally (List Row)) (key : PieceKey) (ticket : ℕ) (after_boxes : BoxesData) (after : TicketsData) → IsOutFor ticket (watch_window_of key) tickets.out
      → after ≡ record tickets { out = remove_entry (is_at (nat_cmp ticket)) tickets.out } → AreTickets after
      → ((q : PieceKey) (t : ℕ) → live_of (piece_at q new) ≡ Some t → live_of (piece_at q monitors) ≡ Some t) → (live_of (piece_at key new) ≡ Some ticket → ⊥)
      → ticket_away key.owner after_boxes ≡ None → ((n : ℕ) → (key.owner ≡ n → ⊥) → ticket_away n after_boxes ≡ ticket_away n boxes)
      → HoldsTickets log managers new after_boxes after
  watch_ticket_ends new key ticket after_boxes after own is are stays gone back others = record {
    are = are;
    live = λ q t live. still_live log q t tickets.out after.out (less.others t (λ same. none_of_managers key q t (subst (λ k. IsOutFor k (watch_window_of key) tickets.out) same own) live)) (holds.live q t live);
    watched = λ q t live. still_watched log q t tickets.out after.out (less.others t (parted q t live)) (holds.watched q t (stays q t live));
    away = λ n t out. elim (same_number key.owner n) [
      | inl same ↦ absurd (clash (ticket_away n after_boxes) t (ap (λ k. ticket_away k after_boxes) (sym same) ∙ back) out)
      | inr apart ↦ (let was = holds.away n t (sym (others n apart) ∙ out) in
          (was.0, kept_for ticket (watch_window_of key) tickets.out after.out less own t (piece.Monitor n was.0) was.1 (λ same. apart (one_number key.owner n key.window was.0 same))))
    ];
    held = λ n w t out. (let was = was_for ticket (watch_window_of key) tickets.out after.out less own t (piece.Monitor n w) out in
        let held : ticket_away n boxes ≡ Some t = holds.held n w t was.1 in
        elim (same_number key.owner n) [
          | inl same ↦ absurd (was.0 (one_value (ticket_away n boxes) ticket t (ap (λ k. ticket_away k boxes) (sym same) ∙ holds.held key.owner key.window ticket own) held))
          | inr apart ↦ others n apart ∙ held
        ]);
  }
    where
      less : IsOutLess ticket tickets.out after.out
      less = out_less ticket tickets after holds.are is

      parted : (q : PieceKey) (t : ℕ) → live_of (piece_at q new) ≡ Some t → ticket ≡ t → ⊥
      parted q t live same =
          let has : live_of (piece_at q new) ≡ Some ticket = live ∙ ap Some (sym same) in
          let here : q ≡ key = one_watch key q ticket own (stays q ticket has) in
          gone (subst (λ (k : PieceKey). live_of (piece_at k new) ≡ Some ticket) here has)

  whole : (n : ℕ) → n ≡ length log.edits → left_by log n ≡ inputs_after log.topo log.edits
  whole n edits = ap (left_by log) edits ∙ ap (inputs_after log.topo) (all_of log.edits)
    where
      all_of : {X : Type 0} (xs : List X) → take (length xs) xs ≡ xs
      all_of [] = refl
      all_of (x ∷ xs) = ap (λ l. x ∷ l) (all_of xs)

  module _ (key : PieceKey) (taken : Taken) (edits : taken.edits ≡ length log.edits) (after : TicketsData) (is : after ≡ record { out = insert_entry nat_cmp tickets.out (tickets.last + 1) taken; last = tickets.last + 1 }) where
    more : IsOutMore (tickets.last + 1) taken tickets.out after.out
    more = out_more taken tickets after holds.are is

    -- Those that are out are others.
    unknown : (t : ℕ) (p : APiece) → IsOutFor t p tickets.out → tickets.last + 1 ≡ t → ⊥
    unknown t p for same = clash (taken_at t tickets.out) for.0 (ap (λ k. taken_at k tickets.out) (sym same) ∙ more.fresh) for.1

    older_for : (t : ℕ) (p : APiece) → IsOutFor t p tickets.out → IsOutFor t p after.out
    older_for t p for = still_for t p tickets.out after.out (more.others t (unknown t p for)) for

    older_live : (q : PieceKey) (t : ℕ) → live_of (piece_at q managers) ≡ Some t → IsLiveFor log after.out q t
    older_live q t live = (let was = holds.live q t live in still_live log q t tickets.out after.out (more.others t (unknown t (window_of q) (live_for log tickets.out q t was))) was)

    older_watched : (q : PieceKey) (t : ℕ) → live_of (piece_at q monitors) ≡ Some t → IsLiveForWatch log after.out q t
    older_watched q t live = (let was = holds.watched q t live in still_watched log q t tickets.out after.out (more.others t (unknown t (watch_window_of q) (watched_for log tickets.out q t was))) was)

    -- One that is out now is the new one, or was out.
    new_or_old : (t : ℕ) (p : APiece) → IsOutFor t p after.out → ((tickets.last + 1 ≡ t) × (taken.piece ≡ p)) ⊎ IsOutFor t p tickets.out
    new_or_old t p for = elim (same_number (tickets.last + 1) t) [
      | inl same ↦ inl (same, ap (λ (x : Taken). x.piece) (one_value (taken_at t after.out) taken for.0 (ap (λ k. taken_at k after.out) (sym same) ∙ more.here) for.1) ∙ for.2)
      | inr apart ↦ inr (for.0, sym (more.others t apart) ∙ for.1, for.2)
    ]

    -- The next ticket is given for a window of a manager, which has it.
    pub ticket_comes : (new : Board SpanState (List Row)) → taken.piece ≡ window_of key → AreTickets after
        → new ≡ with_pieces managers (change key (with_live (Some (tickets.last + 1))) managers.pieces) → HoldsTickets log new monitors boxes after
    ticket_comes new window are marks = record {
      are = are;
      live = λ q t live. go q t (live_found managers new key (with_live (Some (tickets.last + 1))) marks (Some (tickets.last + 1)) (λ p. refl) q t live);
      watched = older_watched;
      away = λ n t out. (let was = holds.away n t out in (was.0, older_for t (piece.Monitor n was.0) was.1));
      held = λ n w t out. elim (new_or_old t (piece.Monitor n w) out) [
        | inl one ↦ absurd (of_two_kinds key.owner key.window n w (sym window ∙ one.1))
        | inr for ↦ holds.held n w t for
      ];
    }
      where
        since : IsSince log key.owner key.window taken.edits
        since = record {
          within = omega (arith, edits);
          regions = sym (ap (λ (i : InputData). areas_at i.regions key.owner) (whole taken.edits edits));
          beats = sym (ap (λ (i : InputData). beats_in key.window (manager_beats i.topo i.fragments key.owner)) (whole taken.edits edits));
        }

        go : (q : PieceKey) (t : ℕ) → ((q ≡ key) × (Some (tickets.last + 1) ≡ Some t)) ⊎ ((q ≡ key → ⊥) × (live_of (piece_at q managers) ≡ Some t)) → IsLiveFor log after.out q t
        go q t (inl h) =
            let same : tickets.last + 1 ≡ t = one_value (Some (tickets.last + 1)) (tickets.last + 1) t refl h.1 in
            subst (λ (k : PieceKey). IsLiveFor log after.out k t) (sym h.0)
            (subst (λ n. IsLiveFor log after.out key n) same (record { taken = taken; is = more.here; window = window; since = since }))
        go q t (inr h) = older_live q t h.1

    -- The next ticket is given for a window of a monitor, which has it; the monitor is then out under it.
    pub watch_ticket_comes : (new : Board Tally (List Row)) (after_boxes : BoxesData) → taken.piece ≡ watch_window_of key → AreTickets after
        → new ≡ with_pieces monitors (change key (with_live (Some (tickets.last + 1))) monitors.pieces)
        → ticket_away key.owner boxes ≡ None → ticket_away key.owner after_boxes ≡ Some (tickets.last + 1) → ((n : ℕ) → (key.owner ≡ n → ⊥) → ticket_away n after_boxes ≡ ticket_away n boxes)
        → HoldsTickets log managers new after_boxes after
    watch_ticket_comes new after_boxes window are marks was_here goes others = record {
      are = are;
      live = older_live;
      watched = λ q t live. go q t (live_found monitors new key (with_live (Some (tickets.last + 1))) marks (Some (tickets.last + 1)) (λ p. refl) q t live);
      away = λ n t out. elim (same_number key.owner n) [
        | inl same ↦ (let is_new : tickets.last + 1 ≡ t = one_value (ticket_away n after_boxes) (tickets.last + 1) t (ap (λ k. ticket_away k after_boxes) (sym same) ∙ goes) out in
            (key.window, (taken, ap (λ k. taken_at k after.out) (sym is_new) ∙ more.here, window ∙ ap (λ k. piece.Monitor k key.window) same)))
        | inr apart ↦ (let was = holds.away n t (sym (others n apart) ∙ out) in (was.0, older_for t (piece.Monitor n was.0) was.1))
      ];
      held = λ n w t out. elim (new_or_old t (piece.Monitor n w) out) [
        | inl one ↦ (let same : key.owner ≡ n = one_number key.owner n key.window w (sym window ∙ one.1) in
            ap (λ k. ticket_away k after_boxes) (sym same) ∙ goes ∙ ap Some one.0)
        | inr for ↦ (let held : ticket_away n boxes ≡ Some t = holds.held n w t for in
            elim (same_number key.owner n) [
              | inl same ↦ absurd (clash (ticket_away n boxes) t (ap (λ k. ticket_away k boxes) (sym same) ∙ was_here) held)
              | inr apart ↦ others n apart ∙ held
            ])
      ];
    }
      where
        since : IsSinceWatch log key.owner key.window taken.edits
        since = record {
          within = omega (arith, edits);
          watch = sym (ap (λ (i : InputData). watch_at key.owner i.monitors) (whole taken.edits edits));
          beats = sym (ap (λ (i : InputData). beats_in key.window (beats_for i key.owner)) (whole taken.edits edits));
        }

        go : (q : PieceKey) (t : ℕ) → ((q ≡ key) × (Some (tickets.last + 1) ≡ Some t)) ⊎ ((q ≡ key → ⊥) × (live_of (piece_at q monitors) ≡ Some t)) → IsLiveForWatch log after.out q t
        go q t (inl h) =
            let same : tickets.last + 1 ≡ t = one_value (Some (tickets.last + 1)) (tickets.last + 1) t refl h.1 in
            subst (λ (k : PieceKey). IsLiveForWatch log after.out k t) (sym h.0)
            (subst (λ n. IsLiveForWatch log after.out key n) same (record { taken = taken; is = more.here; window = window; since = since }))
        go q t (inr h) = older_watched q t h.1

  -- Windows have no tickets any more.
  pub tickets_rest : (new : Board SpanState (List Row)) (new_monitors : Board Tally (List Row)) → ((q : PieceKey) (t : ℕ) → live_of (piece_at q new) ≡ Some t → live_of (piece_at q managers) ≡ Some t)
      → ((q : PieceKey) (t : ℕ) → live_of (piece_at q new_monitors) ≡ Some t → live_of (piece_at q monitors) ≡ Some t) → HoldsTickets log new new_monitors boxes tickets
  tickets_rest new new_monitors stays watches = record {
    are = holds.are;
    live = λ q t live. holds.live q t (stays q t live);
    watched = λ q t live. holds.watched q t (watches q t live);
    away = holds.away;
    held = holds.held;
  }

-- Nothing is out at first.
pub no_tickets : (log : LogData) (managers : Board SpanState (List Row)) (monitors : Board Tally (List Row)) (boxes : BoxesData) (tickets : TicketsData) → managers.pieces ≡ [] → monitors.pieces ≡ [] → boxes.slots ≡ [] → tickets.out ≡ [] → AreTickets tickets
    → HoldsTickets log managers monitors boxes tickets
no_tickets log managers monitors boxes tickets none empty nobody nothing are = record {
  are = are;
  live = λ key ticket live. absurd (clash (live_of (piece_at key managers)) ticket (ap (λ (es : List (PieceKey × Piece SpanState (List Row))). live_of (lookup (is_at (key_cmp key)) es)) none) live);
  watched = λ key ticket live. absurd (clash (live_of (piece_at key monitors)) ticket (ap (λ (es : List (PieceKey × Piece Tally (List Row))). live_of (lookup (is_at (key_cmp key)) es)) empty) live);
  away = λ n t out. absurd (clash (ticket_away n boxes) t (ap (λ slots. ticket_away n (record { slots = slots; ended = boxes.ended })) nobody) out);
  held = λ n w t out. absurd (clash (taken_at t tickets.out) out.0 (ap (taken_at t) nothing) out.1);
}
