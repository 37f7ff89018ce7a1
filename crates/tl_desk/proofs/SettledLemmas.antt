-- Where all windows are settled, none is wanted, and tickets that come or go leave them so.
use Rattle.std.proofs.Common.{◌≡◌, ℕ, inl, inr, true, false, cond, List, [], ◌∷◌, Option, Some, None, sym, ap, subst}
use Rattle.std.specs.BTreeMap.{is_at}
use Rattle.tl_beats.specs.declared.Row.{Row}
use Rattle.tl_desk.specs.JobData.{JobData}
use Rattle.tl_desk.specs.MonitorJobs.{MonitorJobData}
use Rattle.tl_pieces.specs.declared.key.PieceKey.{PieceKey}
use Rattle.tl_pieces.specs.Keys.{key_cmp, change}
use Rattle.tl_pieces.specs.Pieces.{Board, Piece, Pass, exit_before, left_by, with_live, IsAt, IsFirst, IsGood, Follows, IsWanted, ChainsFrom, IsSettled}
use Rattle.tl_check.specs.States.{SameSpan}
use Rattle.tl_check.specs.declared.state.SpanState.{SpanState}
use Rattle.tl_board.specs.Spans.{SpansData}
use Rattle.tl_board.specs.Tickets.{HandsIn}
use Rattle.tl_desk.specs.declared.piece.Piece.TheVariants as piece
use Rattle.tl_board.specs.declared.tally.Tally.{Tally}
use Rattle.tl_board.specs.Outside.{HandsInWatch}
use Rattle.tl_board.specs.Tally.{SameTally}
use Rattle.tl_board.specs.Watches.{WatchesData}
use Rattle.tl_desk.specs.Core.{Core, AllSettled}
use Rattle.tl_desk.specs.Jobs.{Unmarks, UnmarksWatch, Ends, EndsWatch}
use Rattle.tl_desk.specs.Laws.{OnlyEditsUnsettle}
use Rattle.tl_desk.specs.declared.call.Call.TheVariants as call

module _ {S R : Type 0} (same : S → S → Type 0) (os : List (ℕ × S)) where
  followed : (b : Option S) (x : Option (Pass S R)) → Follows same b x → IsGood same b x
  followed None x h = absurd h
  followed (Some s) x h = h

  -- A ticket that comes or goes leaves the chain.
  pub still_chained : (k : PieceKey) (t : Option ℕ) (l : Option (ℕ × Option S)) (es : List (PieceKey × Piece S R)) → ChainsFrom same os l es → ChainsFrom same os l (change k (with_live t) es)
  still_chained k t l [] h = tt
  still_chained k t l (e ∷ es) h = elim (is_at (key_cmp k) e.0) as (λ b. ChainsFrom same os l (cond b ((e.0, with_live t e.1) ∷ es) (e ∷ change k (with_live t) es))) [
    | true ↦ h
    | false ↦ (h.0, still_chained k t (left_by e.0 e.1) es h.1)
  ]

  -- In a chain no piece is wanted.
  pub none_at : (k : PieceKey) (l : Option (ℕ × Option S)) (es : List (PieceKey × Piece S R)) → ChainsFrom same os l es → IsAt (IsWanted same os) l es k → ⊥
  none_at k l [] h at = at
  none_at k l (e ∷ es) h (inl at) = at.1 (followed (exit_before os l e.0.owner) e.1.result h.0)
  none_at k l (e ∷ es) h (inr at) = none_at k (left_by e.0 e.1) es h.1 at.1

  -- So there is no first one either, of whatever owners.
  pub none_first : (H : ℕ → Type 0) (k : PieceKey) (l : Option (ℕ × Option S)) (es : List (PieceKey × Piece S R)) → ChainsFrom same os l es → IsFirst (λ l k p. H k.owner × IsWanted same os l k p) l es (Some k) → ⊥
  none_first H k l [] h first = let never : Some k ≡ None = first in cc
  none_first H k l (e ∷ es) h (inl first) = first.0.1 (followed (exit_before os l e.0.owner) e.1.result h.0)
  none_first H k l (e ∷ es) h (inr first) = none_first H k (left_by e.0 e.1) es h.1 first.1

-- ---- windows of managers

unmarked : (old new : SpansData) (key : PieceKey) (ticket : ℕ) → IsSettled SameSpan old.board → Unmarks old key ticket new → IsSettled SameSpan new.board
unmarked old new key ticket s (inl h) = subst (λ (x : SpansData). IsSettled SameSpan x.board) (sym h.1) (still_chained SameSpan old.board.openings key None None old.board.pieces s)
unmarked old new key ticket s (inr h) = subst (λ (x : SpansData). IsSettled SameSpan x.board) (sym h.1) s

handed_in : (old new : SpansData) (key : PieceKey) (result : Pass SpanState (List Row)) → IsSettled SameSpan old.board → HandsIn old key result new → IsSettled SameSpan new.board
handed_in old new key result s (inl h) = absurd (none_at SameSpan old.board.openings key None old.board.pieces s h.0)
handed_in old new key result s (inr h) = subst (λ (x : SpansData). IsSettled SameSpan x.board) (sym h.1) (still_chained SameSpan old.board.openings key None None old.board.pieces s)

ended : (old new : Core) (job : JobData) → Ends old job new → AllSettled old → AllSettled new
ended old new job h s = (
  unmarked old.windows.spans new.windows.spans _ job.ticket s.0 h.spans,
  subst (λ (b : Board Tally (List Row)). IsSettled SameTally b) (sym (ap (λ (c : Core). c.windows.board) h.rest)) s.1,
)

-- ---- windows of monitors

abbrev BothSettled : WatchesData → Type 0
BothSettled w = IsSettled SameSpan w.spans.board × IsSettled SameTally w.board

unmarked_watch : (old new : WatchesData) (key : PieceKey) (ticket : ℕ) → BothSettled old → UnmarksWatch old key ticket new → BothSettled new
unmarked_watch old new key ticket s (inl h) = subst BothSettled (sym h.1) (s.0, still_chained SameTally old.board.openings key None None old.board.pieces s.1)
unmarked_watch old new key ticket s (inr h) = subst BothSettled (sym h.1) s

handed_in_watch : (old new : WatchesData) (key : PieceKey) (result : Pass Tally (List Row)) → BothSettled old → HandsInWatch old key result new → BothSettled new
handed_in_watch old new key result s (inl h) = absurd (none_at SameTally old.board.openings key None old.board.pieces s.1 h.0)
handed_in_watch old new key result s (inr h) = subst BothSettled (sym h.1) (s.0, still_chained SameTally old.board.openings key None None old.board.pieces s.1)

ended_watch : (old new : Core) (job : MonitorJobData) → EndsWatch old job new → AllSettled old → AllSettled new
ended_watch old new job h s = unmarked_watch old.windows new.windows _ job.ticket s h.windows

-- ---- each call

pub only_edits_unsettle : OnlyEditsUnsettle
only_edits_unsettle old new (call.Edit what number) step quiet s = absurd quiet
only_edits_unsettle old new (call.Attach monitor w number) step quiet s = absurd quiet
only_edits_unsettle old new (call.Recheck count) step quiet s = (step.managers.settled, step.monitors.settled)
only_edits_unsettle old new (call.Publish version) step quiet s = subst AllSettled (sym step.rest) s
only_edits_unsettle old new (call.Take ticket (piece.Manager owner window) from) step quiet s = subst AllSettled (sym step.0.rest) (still_chained SameSpan old.windows.spans.board.openings _ (Some ticket) None old.windows.spans.board.pieces s.0, s.1)
only_edits_unsettle old new (call.Take ticket (piece.Monitor number window) from) step quiet s = subst AllSettled (sym step.0.rest) (s.0, still_chained SameTally old.windows.board.openings _ (Some ticket) None old.windows.board.pieces s.1)
only_edits_unsettle old new (call.HandIn ticket (piece.Manager owner window) found true) (done, _, step) quiet s = (
  handed_in old.windows.spans new.windows.spans _ done.result s.0 step.spans,
  subst (λ (b : Board Tally (List Row)). IsSettled SameTally b) (sym (ap (λ (c : Core). c.windows.board) step.rest)) s.1,
)
only_edits_unsettle old new (call.HandIn ticket (piece.Manager owner window) found false) (done, _, _, step) quiet s = ended old new done.job step s
only_edits_unsettle old new (call.HandIn ticket (piece.Monitor number window) found true) (done, _, step) quiet s = handed_in_watch old.windows new.windows _ done.result s step.windows
only_edits_unsettle old new (call.HandIn ticket (piece.Monitor number window) found false) (done, _, _, step) quiet s = ended_watch old new done.job step s
only_edits_unsettle old new (call.Abandon ticket (piece.Manager owner window)) (job, _, _, step) quiet s = ended old new job step s
only_edits_unsettle old new (call.Abandon ticket (piece.Monitor number window)) (job, _, _, step) quiet s = ended_watch old new job step s
only_edits_unsettle old new (call.Recall ticket) (inl step) quiet s = subst AllSettled (sym step.rest) (still_chained SameSpan old.windows.spans.board.openings step.key None None old.windows.spans.board.pieces s.0, s.1)
only_edits_unsettle old new (call.Recall ticket) (inr step) quiet s = subst AllSettled (sym step.rest) (s.0, still_chained SameTally old.windows.board.openings step.key None None old.windows.board.pieces s.1)
