use Rattle.std.proofs.Common.{sym, ◌∙◌, subst}
use Rattle.tl_desk.specs.Jobs.{Gives}
use Rattle.tl_desk.specs.Steps.{take_of}
use Rattle.tl_hall.specs.History.{Leads}
use Rattle.tl_hall.specs.Passes.{PassData, passed, Made, Takes}
use Rattle.tl_hall.proofs.Running.{leads_more}
use Rattle.tl_hall.proofs.Passing.{made, rests_with}
use Rattle.tl_hall.proofs.JobSteps.{take_steps}
use Rattle.tl_hall.proofs.hall.Hall.take.Goals as goal

pub leave_with-requires-clause-may : goal.leave_with-requires-clause-may
leave_with-requires-clause-may g c helps = tt

pub leave_with-requires-clause-desk : goal.leave_with-requires-clause-desk
leave_with-requires-clause-desk g c kept =
    let e = c.enter-desk.ensures in
    let now = c.enter-desk.new.seat.me.0 in
    let job = c.in-Ok-Some.job in
    let led = subst (λ r. Leads r now.seen c.enter-desk.result) (sym e.saw.topo_is) e.desk in
    let gives = subst (λ o. Gives c.enter-desk.result o c.take.new.self) c.in-Ok-Some.field-0-is c.in-Ok-Some.ensures.step in
    leads_more now.topo now.seen now.number c.enter-desk.result (take_of job) c.take.new.self led tt (take_steps c.enter-desk.result job c.take.new.self gives) kept

pub invariant_of-result : goal.invariant_of-result
invariant_of-result g c = rests_with g.K.Rights.helps c.pass.inside.seat.me.0 c.enter-desk.new.seat.me c.leave_with.new.seat.me (take_of c.in-Ok-Some.job) c.pass.invariant.1 c.enter-desk.ensures.saw c.enter-desk.ensures.inside c.leave_with.ensures.now

pub returns-in-Ok-Some-clause-some : goal.returns-in-Ok-Some-clause-some
returns-in-Ok-Some-clause-some g c =
    let e = c.enter-desk.ensures in
    let job = c.in-Ok-Some.job in
    let after = c.leave_with.new.seat in
    let gives = subst (λ o. Gives c.enter-desk.result o c.take.new.self) c.in-Ok-Some.field-0-is c.in-Ok-Some.ensures.step in
    subst (λ (p : PassData). Made p (take_of job) (Takes job) (passed after.table_id after.me.0)) c.pass.view_is
    (made c.pass.inside.seat.table_id after.table_id c.pass.inside.seat.me.0 c.enter-desk.new.seat.me after.me c.enter-desk.result c.take.new.self (take_of job) (Takes job) (c.leave_with.ensures.hall ∙ e.hall) e.saw e.desk tt (take_steps c.enter-desk.result job c.take.new.self gives) c.leave_with.ensures.desk gives
    c.leave_with.ensures.now)
