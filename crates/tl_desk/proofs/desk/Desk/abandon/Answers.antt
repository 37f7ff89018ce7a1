use Rattle.std.proofs.Common.{refl, sym, subst}
use Rattle.tl_desk.specs.Works.{ticket_of, window_of}
use Rattle.tl_desk.specs.Steps.{AbandonsPiece}
use Rattle.tl_desk.proofs.desk.Desk.abandon.Goals as goal

pub returns-in-Ok-clause-step : goal.returns-in-Ok-clause-step
returns-in-Ok-clause-step g c = subst (λ j. AbandonsPiece c.args.self.now (ticket_of j) (window_of j) c.abandon_manager.new.self) (sym c.in-Manager.is) (c.in-Manager.job, refl, refl, c.in-Ok.ensures.step)
