use Rattle.std.proofs.Common.{inl, inr, sym, subst, ◌∙◌}
use Rattle.tl_pieces.specs.declared.key.PieceKey.{PieceKey}
use Rattle.tl_board.specs.Windows.{key_of}
use Rattle.tl_desk.specs.TicketData.{IsOutFor}
use Rattle.tl_desk.specs.Core.{Core}
use Rattle.tl_desk.specs.Jobs.{IsLive, IsLiveAt, IsLiveAtWatch}
use Rattle.tl_desk.specs.Tickets.{window_of, watch_window_of}
use Rattle.tl_desk.proofs.JobLemmas.{live_none, live_manager, live_monitor}
use Rattle.tl_desk.proofs.desk.Desk.recall.Goals as goal

pub returns-in_default-clause-live : goal.returns-in_default-clause-live
returns-in_default-clause-live g c = (
  λ h. cc,
  λ live. (let inside : Core = record { windows = c.self.inside.windows; boxes = c.self.inside.boxes; reports = c.self.inside.reports.items; tickets = c.self.inside.tickets } in
      absurd (live_none inside c.self.invariant c.args.ticket (sym c.taken.ensures ∙ c.in_default.is) (subst (λ (k : Core). IsLive k c.args.ticket) (sym c.self.view_is) live))),
)

pub returns-in-Manager-clause-live : goal.returns-in-Manager-clause-live
returns-in-Manager-clause-live g c =
    let inside : Core = record { windows = c.self.inside.windows; boxes = c.self.inside.boxes; reports = c.self.inside.reports.items; tickets = c.self.inside.tickets } in
    let key : PieceKey = key_of c.in-Manager.owner c.in-Manager.window in
    let out : IsOutFor c.args.ticket (window_of key) inside.tickets.out = (c.in-Some.taken, sym c.taken.ensures ∙ c.in-Some.is, c.in-Manager.is) in (
      (λ h. (key, inl (c.recall_manager.ensures.live.0 h))),
      (λ live. c.recall_manager.ensures.live.1 (subst (λ (k : Core). IsLiveAt k.windows.spans key c.args.ticket) c.self.view_is
          (live_manager inside c.self.invariant c.args.ticket key out (subst (λ (k : Core). IsLive k c.args.ticket) (sym c.self.view_is) live)))),
    )

pub returns-in-Monitor-clause-live : goal.returns-in-Monitor-clause-live
returns-in-Monitor-clause-live g c =
    let inside : Core = record { windows = c.self.inside.windows; boxes = c.self.inside.boxes; reports = c.self.inside.reports.items; tickets = c.self.inside.tickets } in
    let key : PieceKey = key_of c.in-Monitor.number c.in-Monitor.window in
    let out : IsOutFor c.args.ticket (watch_window_of key) inside.tickets.out = (c.in-Some.taken, sym c.taken.ensures ∙ c.in-Some.is, c.in-Monitor.is) in (
      (λ h. (key, inr (c.recall_monitor.ensures.live.0 h))),
      (λ live. c.recall_monitor.ensures.live.1 (subst (λ (k : Core). IsLiveAtWatch k.windows key c.args.ticket) c.self.view_is
          (live_monitor inside c.self.invariant c.args.ticket key out (subst (λ (k : Core). IsLive k c.args.ticket) (sym c.self.view_is) live)))),
    )
