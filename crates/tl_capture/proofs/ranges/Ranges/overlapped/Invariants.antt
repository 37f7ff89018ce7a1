use Rattle.std.proofs.Common.{◌≡◌}
use Rattle.tl_capture.specs.Present.{recorded, overlapped}
use Rattle.tl_capture.specs.Walk.{fragments_left}
use Rattle.tl_capture.proofs.WalkLemmas.{lower_all, read_all, other_number}
use Rattle.tl_capture.proofs.ranges.Ranges.overlapped.Given as goal

-- the lowest so far and the numbers that are left
abbrev pub invariant-loop-other : goal.invariant-loop-other
invariant-loop-other l = lower_all l.lowest (read_all (other_number l.number) (fragments_left l.other-iterator)) ≡ overlapped (recorded l.link l.fragment) l.self
