use Rattle.std.proofs.Common.{◌≡◌, ◌++◌}
use Rattle.tl_definitions.specs.Positions.{all_placed}
use Rattle.tl_capture.specs.Cursors.{all_left}
use Rattle.tl_capture.specs.Present.{of_link}
use Rattle.tl_capture.specs.Ranges.{span_beats}
use Rattle.tl_capture.specs.Walk.{fragments_left}
use Rattle.tl_capture.specs.Windows.{beats_within}
use Rattle.tl_capture.proofs.WalkLemmas.{read_all}
use Rattle.tl_capture.proofs.ranges.Ranges.push_cursors.Given as goal

-- what the cursors so far and the fragments that are left have
abbrev pub invariant-loop-of : goal.invariant-loop-of
invariant-loop-of l = all_left l.cursors.items ++ read_all (span_beats l.from l.to) (fragments_left l.of-iterator) ≡ all_left l.fn.cursors.items ++ beats_within l.from l.to (all_placed (of_link l.link l.self))
