use Rattle.std.proofs.Common.{◌≡◌, inl, inr, sym, ap, subst, ◌∙◌}
use Rattle.tl_pieces.specs.declared.key.PieceKey.{PieceKey}
use Rattle.tl_board.specs.Windows.{key_of}
use Rattle.tl_desk.specs.TicketData.{IsOutFor}
use Rattle.tl_desk.specs.Core.{Core}
use Rattle.tl_desk.specs.Jobs.{IsLive, IsLiveAt}
use Rattle.tl_desk.specs.Tickets.{window_of, watch_window_of}
use Rattle.tl_desk.proofs.JobLemmas.{live_manager, live_monitor}
use Rattle.tl_desk.proofs.desk.Desk.is_live.Goals as goal

pub returns-in-Manager : goal.returns-in-Manager
returns-in-Manager g c =
    let inside : Core = record { windows = c.self.inside.windows; boxes = c.self.inside.boxes; reports = c.self.inside.reports.items; tickets = c.self.inside.tickets } in
    let key : PieceKey = key_of c.in-Manager.owner c.in-Manager.window in
    let same : key_of c.from-owner.result c.in-Manager.window ≡ key = ap (λ n. key_of n c.in-Manager.window) c.from-owner.ensures in
    let asked : IsOutFor c.args.ticket (window_of key) c.args.self.now.tickets.out = (c.requires.0, c.requires.1, c.requires.2 ∙ c.in-Manager.is) in
    let out : IsOutFor c.args.ticket (window_of key) inside.tickets.out = subst (λ (k : Core). IsOutFor c.args.ticket (window_of key) k.tickets.out) (sym c.self.view_is) asked in (
      (λ h. subst (λ (k : Core). IsLive k c.args.ticket) c.self.view_is (key, inl (subst (λ (k : PieceKey). IsLiveAt inside.windows.spans k c.args.ticket) same (c.is_live_at.ensures.0 h)))),
      (λ live. c.is_live_at.ensures.1 (subst (λ (k : PieceKey). IsLiveAt inside.windows.spans k c.args.ticket) (sym same)
          (live_manager inside c.self.invariant c.args.ticket key out (subst (λ (k : Core). IsLive k c.args.ticket) (sym c.self.view_is) live)))),
    )

pub returns-in-Monitor : goal.returns-in-Monitor
returns-in-Monitor g c =
    let inside : Core = record { windows = c.self.inside.windows; boxes = c.self.inside.boxes; reports = c.self.inside.reports.items; tickets = c.self.inside.tickets } in
    let key : PieceKey = key_of c.in-Monitor.owner c.in-Monitor.window in
    let asked : IsOutFor c.args.ticket (watch_window_of key) c.args.self.now.tickets.out = (c.requires.0, c.requires.1, c.requires.2 ∙ c.in-Monitor.is) in
    let out : IsOutFor c.args.ticket (watch_window_of key) inside.tickets.out = subst (λ (k : Core). IsOutFor c.args.ticket (watch_window_of key) k.tickets.out) (sym c.self.view_is) asked in (
      (λ h. subst (λ (k : Core). IsLive k c.args.ticket) c.self.view_is (key, inr (c.is_live_watch_at.ensures.0 h))),
      (λ live. c.is_live_watch_at.ensures.1
          (live_monitor inside c.self.invariant c.args.ticket key out (subst (λ (k : Core). IsLive k c.args.ticket) (sym c.self.view_is) live))),
    )
