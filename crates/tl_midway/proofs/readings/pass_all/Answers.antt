use Rattle.std.proofs.Common.{arith}
use Rattle.tl_midway.proofs.ReadingLaws.{all_passed}
use Rattle.tl_midway.proofs.readings.pass_all.Goals as goal

pub returns : goal.returns
returns c =
    all_passed c.args.link.now c.args.beat.now c.args.readings.now.items c.loop-place.readings.items c.loop-place.invariant.count
    (λ k d h. c.loop-place.invariant.done k d (let past = c.loop-place-test.false in let many = c.len-place-end.ensures in omega (arith, h, past, many)))
