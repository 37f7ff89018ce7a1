use Rattle.std.proofs.Common.{◌≡◌, length}
use Rattle.tl_capture.specs.Present.{without_ended}
use Rattle.tl_capture.proofs.present.Present.drop_ended.Given as goal

-- what is left to leave
abbrev pub invariant-loop-number : goal.invariant-loop-number
invariant-loop-number l = without_ended l.link l.cycle l.self ≡ without_ended l.link l.cycle l.fn.self

abbrev pub decreases-loop-number : goal.decreases-loop-number
decreases-loop-number l = length l.self
