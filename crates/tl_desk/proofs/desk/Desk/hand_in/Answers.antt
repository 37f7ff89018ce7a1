use Rattle.std.proofs.Common.{sym, subst}
use Rattle.tl_desk.specs.Jobs.{HandsBack}
use Rattle.tl_desk.proofs.JobLemmas.{hand_step}
use Rattle.tl_desk.proofs.desk.Desk.hand_in.Goals as goal

pub returns-in-Manager-clause-step : goal.returns-in-Manager-clause-step
returns-in-Manager-clause-step g c =
    hand_step c.args.self.now c.args.done c.hand_in_manager.result c.hand_in_manager.new.self
    (subst (λ d. HandsBack c.args.self.now d c.hand_in_manager.result c.hand_in_manager.new.self) (sym c.in-Manager.is) c.hand_in_manager.ensures)

pub returns-in-Monitor-clause-step : goal.returns-in-Monitor-clause-step
returns-in-Monitor-clause-step g c =
    hand_step c.args.self.now c.args.done c.hand_in_monitor.result c.hand_in_monitor.new.self
    (subst (λ d. HandsBack c.args.self.now d c.hand_in_monitor.result c.hand_in_monitor.new.self) (sym c.in-Monitor.is) c.hand_in_monitor.ensures)
