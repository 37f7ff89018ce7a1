use Rattle.std.proofs.Common.{subst}
use Rattle.std.specs.Prelude.{IfOk, IfErr}
use Rattle.tl_desk.specs.Works.{job_of, IsDoneFrom, ComesBack}
use Rattle.tl_hall.proofs.Rounds.{came_as}
use Rattle.tl_hall.proofs.working.check.Goals as goal

pub returns-in-Ok : goal.returns-in-Ok
returns-in-Ok g c =
    let done = subst (λ x. IfOk x (IsDoneFrom c.args.job)) c.in-Ok.is c.work.ensures.ok in
    came_as c.args.job (job_of c.in-Ok.done) c.args.pass c.finish.result.0 c.finish.result.1 done c.finish.ensures

pub returns-in-Err : goal.returns-in-Err
returns-in-Err g c =
    let back = subst (λ x. IfErr x (ComesBack c.args.job)) c.in-Err.is c.work.ensures.err in
    came_as c.args.job c.in-Err.job c.args.pass c.give_up.result.0 c.give_up.result.1 back c.give_up.ensures
