use Rattle.std.proofs.Common.{◌≡◌}
use Rattle.tl_workers.proofs.windows.work_ahead.Given as goal

-- the helper stays one of the hall
abbrev pub invariant-loop : goal.invariant-loop
invariant-loop g l = (goal.iterator-loop g).can_next l.iterator' × (goal.iterator-loop g).is_finite l.iterator' × (l.helper.hall ≡ l.initial.helper.hall)
