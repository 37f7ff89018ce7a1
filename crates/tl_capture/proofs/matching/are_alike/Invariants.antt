use Rattle.tl_capture.specs.Parts.{AreAlike}
use Rattle.tl_capture.proofs.matching.are_alike.Given as goal

-- the first are alike
abbrev pub invariant-loop-index : goal.invariant-loop-index
invariant-loop-index l = AreAlike l.start l.index l.here l.there
