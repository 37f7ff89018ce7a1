use Rattle.std.proofs.Common.{◌≡◌, ◌++◌}
use Rattle.tl_definitions.specs.Positions.{all_placed}
use Rattle.tl_capture.specs.Present.{of_link}
use Rattle.tl_capture.specs.Ranges.{span_beats}
use Rattle.tl_capture.specs.Walk.{fragments_left}
use Rattle.tl_capture.specs.Windows.{beats_within}
use Rattle.tl_capture.proofs.WalkLemmas.{read_all}
use Rattle.tl_capture.proofs.ranges.Ranges.push_link.Given as goal

-- what is pushed so far and what the fragments that are left have
abbrev pub invariant-loop-of : goal.invariant-loop-of
invariant-loop-of l = l.beats.items ++ read_all (span_beats l.from l.to) (fragments_left l.of-iterator) ≡ l.fn.beats.items ++ beats_within l.from l.to (all_placed (of_link l.link l.self))
