use Rattle.std.proofs.Common.{◌≡◌, ap, sym, ◌∙◌, subst}
use Rattle.tl_desk.specs.Works.{ticket_of, window_of}
use Rattle.tl_desk.specs.declared.call.Call.{Call}
use Rattle.tl_desk.specs.declared.call.Call.TheVariants as call
use Rattle.tl_hall.specs.History.{Leads}
use Rattle.tl_hall.specs.Passes.{PassData, passed, Made, IsAbandoned}
use Rattle.tl_hall.proofs.Passing.{made, rests_with, recorded_as, written}
use Rattle.tl_hall.proofs.hall.Hall.abandon.Goals as goal

pub leave_with-requires-clause-may : goal.leave_with-requires-clause-may
leave_with-requires-clause-may g c helps = tt

pub leave_with-requires-clause-desk : goal.leave_with-requires-clause-desk
leave_with-requires-clause-desk g c kept =
    let e = c.enter-desk.ensures in
    let now = c.enter-desk.new.seat.me.0 in
    let job = c.args.job in
    let led = subst (λ r. Leads r now.seen c.enter-desk.result) (sym e.saw.topo_is) e.desk in
    let told : Call = call.Abandon c.ticket-ticket.result c.piece-piece.result in
    let made_call : Call = call.Abandon (ticket_of job) (window_of job) in
    let same : made_call ≡ told = ap (λ t. call.Abandon t (window_of job)) (sym c.ticket-ticket.ensures) ∙ ap (λ p. call.Abandon c.ticket-ticket.result p) (sym c.piece-piece.ensures) in
    recorded_as now c.enter-desk.result c.abandon.new.self made_call told same led tt c.in-Ok.ensures.step kept

pub invariant_of-result : goal.invariant_of-result
invariant_of-result g c = rests_with g.K.Rights.helps c.pass.inside.seat.me.0 c.enter-desk.new.seat.me c.leave_with.new.seat.me (call.Abandon c.ticket-ticket.result c.piece-piece.result) c.pass.invariant.1 c.enter-desk.ensures.saw c.enter-desk.ensures.inside c.leave_with.ensures.now

pub returns-in-Ok-clause-ok : goal.returns-in-Ok-clause-ok
returns-in-Ok-clause-ok g c =
    let e = c.enter-desk.ensures in
    let job = c.args.job in
    let told : Call = call.Abandon c.ticket-ticket.result c.piece-piece.result in
    let made_call : Call = call.Abandon (ticket_of job) (window_of job) in
    let same : told ≡ made_call = ap (λ t. call.Abandon t c.piece-piece.result) c.ticket-ticket.ensures ∙ ap (λ p. call.Abandon (ticket_of job) p) c.piece-piece.ensures in
    let after = c.leave_with.new.seat in
    subst (λ (p : PassData). Made p made_call (IsAbandoned job) (passed after.table_id after.me.0)) c.pass.view_is
    (made c.pass.inside.seat.table_id after.table_id c.pass.inside.seat.me.0 c.enter-desk.new.seat.me after.me c.enter-desk.result c.abandon.new.self made_call (IsAbandoned job) (c.leave_with.ensures.hall ∙ e.hall) e.saw e.desk tt c.in-Ok.ensures.step c.leave_with.ensures.desk c.in-Ok.ensures.ended
    (written c.enter-desk.new.seat.me after.me told made_call same c.leave_with.ensures.now))
