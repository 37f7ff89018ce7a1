use Rattle.std.proofs.Common.{◌≡◌}
use Rattle.tl_definitions.specs.Positions.{all_placed}
use Rattle.tl_capture.specs.Present.{of_link}
use Rattle.tl_capture.specs.Ranges.{span_beats}
use Rattle.tl_capture.specs.Walk.{fragments_left}
use Rattle.tl_capture.specs.Windows.{beats_within}
use Rattle.tl_capture.proofs.WalkLemmas.{read_all}
use Rattle.tl_capture.proofs.ranges.Ranges.has_beat.Given as goal

-- The fragments that are left have all that there is.
abbrev pub invariant-loop-fragment : goal.invariant-loop-fragment
invariant-loop-fragment l = read_all (span_beats l.from l.to) (fragments_left l.fragment-iterator) ≡ beats_within l.from l.to (all_placed (of_link l.link l.self))
