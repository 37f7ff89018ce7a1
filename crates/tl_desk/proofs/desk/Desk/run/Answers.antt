use Rattle.std.proofs.Common.{sym, ◌∙◌}
use Rattle.std.specs.Vec.Iter.{into_iter_items}
use Rattle.tl_desk.proofs.PlayLemmas.{ran_all}
use Rattle.tl_desk.proofs.desk.Desk.run.Goals as goal

pub returns-in_default-clause-ran : goal.returns-in_default-clause-ran
returns-in_default-clause-ran g c =
    ran_all (λ m. (g.M.Monitor.held m).watch) c.args.steps.items c.args.places.now.items c.args.self.now (into_iter_items c.loop-step.steps) c.loop-step.replies.items c.loop-step.places.items c.loop-step.self
    c.loop-step.invariant.ran c.log.ensures.desk (sym c.loop-step.invariant.len ∙ c.in_default.ensures.cases.0)
