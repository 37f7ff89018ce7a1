use Rattle.std.proofs.Common.{arith}
use Rattle.tl_midway.specs.Counted.{one_beat}
use Rattle.tl_midway.proofs.CountsLaws.{mapped_each}
use Rattle.tl_midway.proofs.counts.count_unjudged.Goals as goal

pub returns : goal.returns
returns c m start before stands serves =
    mapped_each (one_beat m start before c.args.at.now) c.args.counts.now.items c.loop-place.counts.items c.loop-place.invariant.count
    (λ k d h. c.loop-place.invariant.done m start before stands serves k d (let past = c.loop-place-test.false in let many = c.len-place-end.ensures in omega (arith, h, past, many)))
