use Rattle.std.proofs.Common.{◌≡◌, inl, inr, None, ap, subst}
use Rattle.tl_pieces.specs.declared.key.PieceKey.{PieceKey}
use Rattle.tl_board.specs.Windows.{key_of}
use Rattle.tl_board.specs.Watches.{WatchesData}
use Rattle.tl_desk.specs.Core.{Core}
use Rattle.tl_desk.specs.Jobs.{IsLiveAtWatch, UnmarksWatch, RecallsWatch, marked_watch}
use Rattle.tl_desk.proofs.JobLemmas.{watch_unmarked, watch_unmarked_spans, sound_watch_recalled}
use Rattle.tl_desk.proofs.desk.Desk.recall_monitor.Goals as goal

pub invariant_of-self : goal.invariant_of-self
invariant_of-self g c =
    let inside : Core = record { windows = c.self.inside.windows; boxes = c.self.inside.boxes; reports = c.self.inside.reports.items; tickets = c.self.inside.tickets } in
    let key : PieceKey = key_of c.args.number c.args.window in
    sound_watch_recalled inside c.self.invariant key c.args.ticket c.unmark.new.windows (watch_unmarked_spans inside.windows c.unmark.new.windows key c.args.ticket c.unmark.ensures.made)
    (watch_unmarked inside.windows c.unmark.new.windows key c.args.ticket c.unmark.ensures.made)

pub returns-clause-step : goal.returns-clause-step
returns-clause-step g c = λ yes. (
    let inside : Core = record { windows = c.self.inside.windows; boxes = c.self.inside.boxes; reports = c.self.inside.reports.items; tickets = c.self.inside.tickets } in
    let key : PieceKey = key_of c.args.number c.args.window in
    let new : Core = record { windows = c.unmark.new.windows; boxes = inside.boxes; reports = inside.reports; tickets = inside.tickets } in
    let live : IsLiveAtWatch inside.windows key c.args.ticket = c.unmark.ensures.live.0 yes in
    let made : UnmarksWatch inside.windows key c.args.ticket c.unmark.new.windows = c.unmark.ensures.made in
    let windows : c.unmark.new.windows ≡ marked_watch key None inside.windows = elim made [ inl h ↦ h.1 | inr h ↦ absurd (h.0 live) ] in
    subst (λ (k : Core). RecallsWatch k c.args.ticket new) c.self.view_is
    (record { key = key; live = live; rest = ap (λ (w : WatchesData). record { windows = w; boxes = inside.boxes; reports = inside.reports; tickets = inside.tickets }) windows }))
