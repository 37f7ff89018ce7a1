use Rattle.std.proofs.Common.{◌≡◌, ◌++◌, take}
use Rattle.tl_definitions.specs.Positions.{placed_beats}
use Rattle.tl_capture.specs.Present.{recorded}
use Rattle.tl_capture.specs.Windows.{beats_within}
use Rattle.tl_capture.proofs.cut.push_beats.Given as goal

-- the beats of the window among the first
abbrev pub invariant-loop-index : goal.invariant-loop-index
invariant-loop-index l = l.beats.items ≡ l.fn.beats.items ++ beats_within l.from l.to (take l.index (placed_beats (recorded l.link l.fragment)))
