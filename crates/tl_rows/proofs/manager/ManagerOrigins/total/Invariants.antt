use Rattle.std.proofs.Common.{ℕ, ◌+◌, List, drop}
use Rattle.tl_beats.specs.declared.Placed.{Placed}
use Rattle.tl_rows.specs.Counts.{IsOpenCount, IsTotal}
use Rattle.tl_rows.specs.States.{StandsFor, manager_with}
use Rattle.tl_rows.proofs.manager.ManagerOrigins.total.Given as goal

-- what is open at the clients that are left makes the total of all
abbrev pub invariant-loop-client : goal.invariant-loop-client
invariant-loop-client l = (exponent : ℕ) (before : List Placed) → StandsFor (manager_with l.topo exponent l.clients) l.self before
    → (rest : ℕ) → IsTotal (IsOpenCount (manager_with l.topo exponent l.clients) before l.opened) (drop l.client-index l.clients) rest
    → IsTotal (IsOpenCount (manager_with l.topo exponent l.clients) before l.opened) l.clients (l.total + rest)
