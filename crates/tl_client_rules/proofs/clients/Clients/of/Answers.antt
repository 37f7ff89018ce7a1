use Rattle.std.proofs.Common.{sym, subst}
use Rattle.std.specs.List.Sorted.{IsStrictlySortedBy}
use Rattle.std.specs.Ordering.{nat_cmp}
use Rattle.tl_definitions.specs.Managers.{declared_links}
use Rattle.tl_client_rules.proofs.ClientsLaws.{clients_rise}
use Rattle.tl_client_rules.proofs.clients.Clients.of.Goals as goal

pub invariant_of-result : goal.invariant_of-result
invariant_of-result c = subst (IsStrictlySortedBy nat_cmp) (sym c.in_ok-clients_of.ensures) (clients_rise c.args.manager (declared_links c.args.topo.now))
