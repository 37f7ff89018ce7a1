use Rattle.std.proofs.Common.{◌≡◌, drop}
use Rattle.tl_rows.specs.Reasons.{first_some}
use Rattle.tl_rows.specs.States.{trail_at, sought_at}
use Rattle.tl_rows.proofs.manager.ManagerOrigins.first.Given as goal

-- the clients that are left have the first
abbrev pub invariant-loop-client : goal.invariant-loop-client
invariant-loop-client l =
    first_some (sought_at l.self.exponent (trail_at l.self) l.sought) (drop l.client-index l.clients) ≡ first_some (sought_at l.self.exponent (trail_at l.self) l.sought) l.clients
