use Rattle.std.proofs.Common.{◌≡◌}
use Rattle.tl_hall.specs.Passes.{Stays}
use Rattle.tl_workers.proofs.seat.seats_beside.Given as goal

-- the pass stays as it is, but for the numbers that it may give
abbrev pub invariant-loop-worker : goal.invariant-loop-worker
invariant-loop-worker g l = Stays l.initial.pass l.pass × (l.pass.sole ≡ l.initial.pass.sole)
