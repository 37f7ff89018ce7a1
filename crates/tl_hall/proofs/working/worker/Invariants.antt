use Rattle.tl_hall.specs.Working.{Worked, nothing_done}
use Rattle.tl_hall.proofs.working.worker.Given as goal

-- what was done so far
abbrev pub invariant-loop : goal.invariant-loop
invariant-loop g l = (goal.iterator-loop g).can_next l.iterator' × (goal.iterator-loop g).is_finite l.iterator' × Worked 0 l.initial.pass nothing_done l.pass l.count
