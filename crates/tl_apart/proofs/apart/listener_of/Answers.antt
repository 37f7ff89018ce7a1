use Rattle.std.proofs.Common.{sym, subst, ◌∙◌}
use Rattle.std.specs.List.Sorted.{IsStrictlySortedBy}
use Rattle.std.specs.Ordering.{nat_cmp}
use Rattle.tl_definitions.specs.Managers.{declared_links}
use Rattle.tl_client_rules.proofs.ClientsLaws.{clients_rise}
use Rattle.tl_apart.specs.Told.{bare}
use Rattle.tl_apart.proofs.apart.listener_of.Goals as goal

pub new-requires : goal.new-requires
new-requires c = record { rises = subst (IsStrictlySortedBy nat_cmp) (sym (c.deref.ensures.value ∙ c.in_ok-clients.ensures)) (clients_rise c.args.manager (declared_links c.args.topo.now)) }

pub returns : goal.returns
returns c = record {
  numbers = c.in_ok-clients.ensures;
  own = c.in_ok-holders.ensures.clients ∙ c.deref.ensures.value ∙ c.in_ok-clients.ensures;
  shows = c.in_ok-holders.ensures.opening (bare c.args.topo.now c.args.manager);
}
