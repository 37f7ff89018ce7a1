use Rattle.std.proofs.Common.{◌≡◌, take}
use Rattle.tl_definitions.specs.Positions.{clients_from}
use Rattle.tl_definitions.specs.Managers.{declared_links}
use Rattle.tl_client_rules.proofs.clients.clients_of.Given as goal

-- the manager's links among the first ones
abbrev pub invariant-loop-number : goal.invariant-loop-number
invariant-loop-number l = l.clients.items ≡ clients_from l.manager 0 (take l.number (declared_links l.topo))
