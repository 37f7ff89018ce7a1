use Rattle.tl_rows.proofs.StepLaws.{taken}
use Rattle.tl_rows.proofs.openers.Openers.take.Goals as goal

pub returns : goal.returns
returns c before stands =
    let set = c.set_bound.ensures in
    let changed = c.open_and_close.ensures in
    taken c.args.exponent c.args.self.now c.set_bound.new.self c.open_and_close.new.self before c.args.place.now c.args.op c.request_of-request.result c.open_and_close.result stands c.request_of-request.ensures
    (c.in_ok-set_bound.ensures.setter, set.source, set.release, set.sink, set.probe, set.ordered stands.ordered)
    changed.setter changed.source changed.release changed.sink changed.probe (changed.ordered (set.ordered stands.ordered))
