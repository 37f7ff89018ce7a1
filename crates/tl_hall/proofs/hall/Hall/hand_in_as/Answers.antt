use Rattle.std.proofs.Common.{◌≡◌, ap, sym, ◌∙◌, subst, true, false}
use Rattle.tl_desk.specs.Works.{done_ticket, done_window}
use Rattle.tl_desk.specs.Steps.{hand_in_of, outcome_for}
use Rattle.tl_desk.specs.declared.job.HandIn.TheVariants as answer
use Rattle.tl_desk.specs.declared.call.Call.{Call}
use Rattle.tl_desk.specs.declared.call.Call.TheVariants as call
use Rattle.tl_hall.specs.History.{Leads}
use Rattle.tl_hall.specs.Passes.{PassData, passed, Made, ComesTo}
use Rattle.tl_hall.proofs.Passing.{made, rests_with, recorded_as, written}
use Rattle.tl_hall.proofs.hall.Hall.hand_in_as.Goals as goal

pub leave_with-requires-clause-may : goal.leave_with-requires-clause-may
leave_with-requires-clause-may g c helps = tt

pub leave_with-requires-clause-desk : goal.leave_with-requires-clause-desk
leave_with-requires-clause-desk g c kept =
    let e = c.enter-desk.ensures in
    let now = c.enter-desk.new.seat.me.0 in
    let done = c.args.done in
    let led = subst (λ r. Leads r now.seen c.enter-desk.result) (sym e.saw.topo_is) e.desk in
    let told : Call = call.HandIn c.ticket-ticket.result c.piece-piece.result g.C.Came.found true in
    let made_call : Call = hand_in_of done true in
    let same : made_call ≡ told = ap (λ t. call.HandIn t (done_window done) (outcome_for done) true) (sym c.ticket-ticket.ensures) ∙ ap (λ p. call.HandIn c.ticket-ticket.result p (outcome_for done) true) (sym c.piece-piece.ensures)
    ∙ ap (λ o. call.HandIn c.ticket-ticket.result c.piece-piece.result o true) c.requires.came in
    recorded_as now c.enter-desk.result c.hand_in.new.self made_call told same led tt c.in-Taken.ensures.step kept

pub leave_with-requires-in-Void-clause-desk : goal.leave_with-requires-in-Void-clause-desk
leave_with-requires-in-Void-clause-desk g c kept =
    let e = c.enter-desk.ensures in
    let now = c.enter-desk.new.seat.me.0 in
    let done = c.args.done in
    let led = subst (λ r. Leads r now.seen c.enter-desk.result) (sym e.saw.topo_is) e.desk in
    let told : Call = call.HandIn c.ticket-ticket.result c.piece-piece.result g.C.Came.found false in
    let made_call : Call = hand_in_of done false in
    let same : made_call ≡ told = ap (λ t. call.HandIn t (done_window done) (outcome_for done) false) (sym c.ticket-ticket.ensures) ∙ ap (λ p. call.HandIn c.ticket-ticket.result p (outcome_for done) false) (sym c.piece-piece.ensures)
    ∙ ap (λ o. call.HandIn c.ticket-ticket.result c.piece-piece.result o false) c.requires.came in
    recorded_as now c.enter-desk.result c.hand_in.new.self made_call told same led tt c.in-Void.ensures.step kept

pub invariant_of-result : goal.invariant_of-result
invariant_of-result g c = rests_with g.K.Rights.helps c.pass.inside.seat.me.0 c.enter-desk.new.seat.me c.leave_with.new.seat.me (call.HandIn c.ticket-ticket.result c.piece-piece.result g.C.Came.found true) c.pass.invariant.1 c.enter-desk.ensures.saw c.enter-desk.ensures.inside c.leave_with.ensures.now

pub invariant_of-result-in-Void : goal.invariant_of-result-in-Void
invariant_of-result-in-Void g c = rests_with g.K.Rights.helps c.pass.inside.seat.me.0 c.enter-desk.new.seat.me c.leave_with-in-Void.new.seat.me (call.HandIn c.ticket-ticket.result c.piece-piece.result g.C.Came.found false) c.pass.invariant.1 c.enter-desk.ensures.saw c.enter-desk.ensures.inside c.leave_with-in-Void.ensures.now

pub returns-in-Taken : goal.returns-in-Taken
returns-in-Taken g c =
    let e = c.enter-desk.ensures in
    let done = c.args.done in
    let told : Call = call.HandIn c.ticket-ticket.result c.piece-piece.result g.C.Came.found true in
    let made_call : Call = hand_in_of done true in
    let same : told ≡ made_call = ap (λ t. call.HandIn t c.piece-piece.result g.C.Came.found true) c.ticket-ticket.ensures ∙ ap (λ p. call.HandIn (done_ticket done) p g.C.Came.found true) c.piece-piece.ensures
    ∙ ap (λ o. call.HandIn (done_ticket done) (done_window done) o true) (sym c.requires.came) in
    let after = c.leave_with.new.seat in
    subst (λ (p : PassData). Made p made_call (ComesTo done answer.Taken) (passed after.table_id after.me.0)) c.pass.view_is
    (made c.pass.inside.seat.table_id after.table_id c.pass.inside.seat.me.0 c.enter-desk.new.seat.me after.me c.enter-desk.result c.hand_in.new.self made_call (ComesTo done answer.Taken) (c.leave_with.ensures.hall ∙ e.hall) e.saw e.desk tt
    c.in-Taken.ensures.step c.leave_with.ensures.desk c.in-Taken.ensures.back (written c.enter-desk.new.seat.me after.me told made_call same c.leave_with.ensures.now))

pub returns-in-Void : goal.returns-in-Void
returns-in-Void g c =
    let e = c.enter-desk.ensures in
    let done = c.args.done in
    let told : Call = call.HandIn c.ticket-ticket.result c.piece-piece.result g.C.Came.found false in
    let made_call : Call = hand_in_of done false in
    let same : told ≡ made_call = ap (λ t. call.HandIn t c.piece-piece.result g.C.Came.found false) c.ticket-ticket.ensures ∙ ap (λ p. call.HandIn (done_ticket done) p g.C.Came.found false) c.piece-piece.ensures
    ∙ ap (λ o. call.HandIn (done_ticket done) (done_window done) o false) (sym c.requires.came) in
    let after = c.leave_with-in-Void.new.seat in
    subst (λ (p : PassData). Made p made_call (ComesTo done answer.Void) (passed after.table_id after.me.0)) c.pass.view_is
    (made c.pass.inside.seat.table_id after.table_id c.pass.inside.seat.me.0 c.enter-desk.new.seat.me after.me c.enter-desk.result c.hand_in.new.self made_call (ComesTo done answer.Void) (c.leave_with-in-Void.ensures.hall ∙ e.hall) e.saw e.desk tt
    c.in-Void.ensures.step c.leave_with-in-Void.ensures.desk c.in-Void.ensures.back (written c.enter-desk.new.seat.me after.me told made_call same c.leave_with-in-Void.ensures.now))
