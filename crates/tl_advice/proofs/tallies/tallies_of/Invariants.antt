use Rattle.std.proofs.Common.{take}
use Rattle.tl_advice.specs.Tallies.{AreLinked, AreTallied}
use Rattle.tl_advice.proofs.tallies.tallies_of.Given as goal

-- what is told of the rules so far
abbrev pub invariant-loop-rule : goal.invariant-loop-rule
invariant-loop-rule l = AreLinked l.topo l.rows → AreTallied l.topo (take l.rule-index l.rules) l.rows l.tallies.items
