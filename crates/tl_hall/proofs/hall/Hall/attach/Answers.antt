use Rattle.std.proofs.Common.{sym, ◌∙◌, subst, false, true≢false}
use Rattle.tl_beats.specs.declared.watch.Watch.{Watch}
use Rattle.tl_desk.specs.Steps.{Step}
use Rattle.tl_desk.specs.declared.call.Call.TheVariants as call
use Rattle.tl_hall.specs.History.{Leads}
use Rattle.tl_hall.specs.Passes.{PassData, passed, Made, NoMore}
use Rattle.tl_hall.proofs.Running.{leads_more}
use Rattle.tl_hall.proofs.Passing.{made, rests_with}
use Rattle.tl_hall.proofs.hall.Hall.attach.Goals as goal

pub leave_with-requires-clause-may : goal.leave_with-requires-clause-may
leave_with-requires-clause-may g c helps = absurd (true≢false (sym helps ∙ (c.enter-desk.ensures.saw.helps_is ∙ c.pass.invariant.1)))

pub leave_with-requires-clause-desk : goal.leave_with-requires-clause-desk
leave_with-requires-clause-desk g c kept =
    let e = c.enter-desk.ensures in
    let now = c.enter-desk.new.seat.me.0 in
    let led = subst (λ r. Leads r now.seen c.enter-desk.result) (sym e.saw.topo_is) e.desk in
    let step = subst (λ (w : Watch). Step c.enter-desk.result (call.Attach c.args.number w c.in-Ok.edit) c.attach.new.self) (sym c.watch-watch.ensures.watch) c.in-Ok.ensures.step in
    leads_more now.topo now.seen now.number c.enter-desk.result (call.Attach c.args.number c.watch-watch.result c.in-Ok.edit) c.attach.new.self led tt step kept

pub invariant_of-result : goal.invariant_of-result
invariant_of-result g c = rests_with false c.pass.inside.seat.me.0 c.enter-desk.new.seat.me c.leave_with.new.seat.me (call.Attach c.args.number c.watch-watch.result c.in-Ok.edit) c.pass.invariant.1 c.enter-desk.ensures.saw c.enter-desk.ensures.inside c.leave_with.ensures.now

pub returns-in-Ok-clause-ok : goal.returns-in-Ok-clause-ok
returns-in-Ok-clause-ok g c =
    let e = c.enter-desk.ensures in
    let made_call = call.Attach c.args.number c.watch-watch.result c.in-Ok.edit in
    let after = c.leave_with.new.seat in
    let step = subst (λ (w : Watch). Step c.enter-desk.result (call.Attach c.args.number w c.in-Ok.edit) c.attach.new.self) (sym c.watch-watch.ensures.watch) c.in-Ok.ensures.step in
    subst (λ (w : Watch). Made c.args.pass (call.Attach c.args.number w c.in-Ok.edit) NoMore (passed after.table_id after.me.0)) c.watch-watch.ensures.watch
    (subst (λ (p : PassData). Made p made_call NoMore (passed after.table_id after.me.0)) c.pass.view_is
    (made c.pass.inside.seat.table_id after.table_id c.pass.inside.seat.me.0 c.enter-desk.new.seat.me after.me c.enter-desk.result c.attach.new.self made_call NoMore (c.leave_with.ensures.hall ∙ e.hall) e.saw e.desk tt step c.leave_with.ensures.desk tt c.leave_with.ensures.now))
