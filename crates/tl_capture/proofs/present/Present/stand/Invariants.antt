use Rattle.std.proofs.Common.{take}
use Rattle.std.specs.Arc.{arc_value}
use Rattle.std.specs.List.{All}
use Rattle.tl_definitions.specs.Positions.{beats_of_all}
use Rattle.tl_capture.specs.Parts.{AreAmong}
use Rattle.tl_capture.specs.Present.{recorded}
use Rattle.tl_capture.specs.Ranges.{span_beats}
use Rattle.tl_capture.specs.Windows.{beats_within}
use Rattle.tl_capture.proofs.present.Present.stand.Given as goal

-- the beats of the first fragments are among those of the links
abbrev pub invariant-loop-link : goal.invariant-loop-link
invariant-loop-link l = All (λ e. AreAmong (span_beats l.from l.to (recorded e.0 (arc_value e.1))) (beats_within l.from l.to (beats_of_all l.links l.self))) (take l.link-index l.parts)
