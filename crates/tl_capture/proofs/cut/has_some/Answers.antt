use Rattle.std.proofs.Common.{false}
use Rattle.tl_tables.specs.declared.Chan.TheVariants as chan
use Rattle.tl_capture.proofs.SomeLemmas.{some_between}
use Rattle.tl_capture.proofs.cut.has_some.Goals as goal

pub returns : goal.returns
returns c = some_between c.args.from c.args.to c.bounds-start.result.0 c.bounds-start.result.1 c.args.fragment.now.beats (record { cycle = 0; chan = chan.A; opcode = 0; param = 0; size = 0; source = 0; sink = 0; address = 0; mask = 0; denied = false; corrupt = false })
    c.bounds-start.ensures.within c.bounds-start.ensures.before c.bounds-start.ensures.between c.bounds-start.ensures.behind c.bounds-start.ensures.order
