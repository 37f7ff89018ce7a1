use Rattle.std.proofs.Common.{length}
use Rattle.tl_script.proofs.Visits.{Visited}
use Rattle.tl_script.proofs.visiting.visit_all.Given as goal

abbrev pub invariant-loop-read : goal.invariant-loop-read
invariant-loop-read g l = Visited g.V.Visitor.has_seen l.fn.visitor l.visitor l.script l.rest l.commands

abbrev pub decreases-loop-read : goal.decreases-loop-read
decreases-loop-read g l = length l.rest
