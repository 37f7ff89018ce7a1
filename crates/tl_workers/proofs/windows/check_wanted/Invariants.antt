use Rattle.tl_workers.specs.Crew.{GoesOn}
use Rattle.tl_workers.proofs.windows.check_wanted.Given as goal

-- the pass goes on
abbrev pub invariant-loop : goal.invariant-loop
invariant-loop g l = (goal.iterator-loop g).can_next l.iterator' × (goal.iterator-loop g).is_finite l.iterator' × GoesOn l.initial.pass l.pass
