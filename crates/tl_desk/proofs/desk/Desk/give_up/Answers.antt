use Rattle.std.proofs.Common.{subst}
use Rattle.std.specs.Result.{OnOk}
use Rattle.tl_desk.specs.Works.{ticket_of, window_of}
use Rattle.tl_desk.specs.Jobs.{IsOutHere, TakesBack}
use Rattle.tl_desk.specs.Steps.{Step}
use Rattle.tl_desk.specs.declared.call.Call.TheVariants as call
use Rattle.tl_desk.proofs.PlayLemmas.{not_refused}
use Rattle.tl_desk.proofs.desk.Desk.give_up.Goals as goal

pub unwrap-requires : goal.unwrap-requires
unwrap-requires g c = not_refused (IsOutHere c.args.self.now c.args.job) c.abandon.result c.abandon.ensures.stranger c.requires

pub returns-clause-step : goal.returns-clause-step
returns-clause-step g c = subst (λ r. OnOk r (Step c.args.self.now (call.Abandon (ticket_of c.args.job) (window_of c.args.job)) c.abandon.new.self)) c.unwrap.ensures c.abandon.ensures.step

pub returns-clause-back : goal.returns-clause-back
returns-clause-back g c = subst (λ r. OnOk r (TakesBack c.args.self.now c.args.job c.abandon.new.self)) c.unwrap.ensures c.abandon.ensures.ended
