use Rattle.std.proofs.Common.{take}
use Rattle.tl_capture.specs.Runs.{AreOthers}
use Rattle.tl_capture.proofs.runs.are_others.Given as goal

-- the first of them are of others
abbrev pub invariant-loop-cursor : goal.invariant-loop-cursor
invariant-loop-cursor l = AreOthers l.link (take l.cursor-index l.cursors)
