use Rattle.std.proofs.Common.{◌≡◌, ◌+◌, length}
use Rattle.tl_definitions.specs.Positions.{all_placed}
use Rattle.tl_capture.specs.Present.{of_link}
use Rattle.tl_capture.specs.Ranges.{span_beats}
use Rattle.tl_capture.specs.Walk.{fragments_left}
use Rattle.tl_capture.specs.Windows.{beats_within}
use Rattle.tl_capture.proofs.WalkLemmas.{read_all}
use Rattle.tl_capture.proofs.ranges.Ranges.less.Given as goal

-- the count exceeds what is left by the beats of the first fragments
abbrev pub invariant-loop-fragment : goal.invariant-loop-fragment
invariant-loop-fragment l = l.left + length (beats_within l.from l.to (all_placed (of_link l.link l.self))) ≡ l.count + length (read_all (span_beats l.from l.to) (fragments_left l.fragment-iterator))
