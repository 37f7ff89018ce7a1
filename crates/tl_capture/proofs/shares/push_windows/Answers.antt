use Rattle.std.proofs.Common.{arith}
use Rattle.tl_capture.proofs.ShareLemmas.{windows_found}
use Rattle.tl_capture.proofs.shares.push_windows.Goals as goal

pub returns : goal.returns
returns c = windows_found c.args.beats.now c.loop-beat.beat-index c.loop-beat.next c.loop-beat.windows.items _ (omega (arith, c.loop-beat-test.false)) c.loop-beat.invariant
