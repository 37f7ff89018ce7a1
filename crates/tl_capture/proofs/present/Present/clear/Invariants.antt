use Rattle.std.proofs.Common.{◌≡◌, length}
use Rattle.tl_capture.specs.Present.{cleared}
use Rattle.tl_capture.proofs.present.Present.clear.Given as goal

-- what is left to leave
abbrev pub invariant-loop-number : goal.invariant-loop-number
invariant-loop-number l = cleared l.link l.self ≡ cleared l.link l.fn.self

abbrev pub decreases-loop-number : goal.decreases-loop-number
decreases-loop-number l = length l.self
