use Rattle.tl_check.proofs.StepLaws.{on_ok}
use Rattle.tl_apart.proofs.GoesLaws.{caught_up}
use Rattle.tl_apart.proofs.apart.Apart.catch_up.Goals as goal

pub returns-in-Some : goal.returns-in-Some
returns-in-Some c topo fs had low =
    on_ok c.judge_to.result (λ on. caught_up topo fs c.args.manager c.in-Some.front c.args.self.now c.judge_to.new.self had (c.in-Some.ensures topo fs had.judged had.is) (on.0, on.1))
    (c.judge_to.ensures.on topo fs had.judged had.is low)
