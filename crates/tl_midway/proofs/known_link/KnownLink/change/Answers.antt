use Rattle.tl_midway.specs.Known.{known_of}
use Rattle.tl_midway.proofs.KnownLaws.{changed, counted_with}
use Rattle.tl_midway.proofs.known_link.KnownLink.change.Goals as goal

pub returns-clause-past : goal.returns-clause-past
returns-clause-past c =
    changed c.args.certain c.args.self.now c.set_bound.new.self c.open_and_close.new.self c.args.head.now c.args.op (known_of c.request-request.result)
    c.request-request.ensures c.set_bound.ensures.rest c.in_ok-set_bound.ensures.bound c.open_and_close.ensures.bounds c.in_ok-open_and_close.ensures.past

pub returns-clause-counted : goal.returns-clause-counted
returns-clause-counted c was =
    c.in_ok-open_and_close.ensures.counted (counted_with c.args.self.now c.set_bound.new.self c.set_bound.ensures.rest was)
