use Rattle.std.proofs.Common.{get_or, sym, subst, ◌∙◌}
use Rattle.std.specs.List.{Contains}
use Rattle.std.specs.List.Sorted.{IsStrictlySortedBy}
use Rattle.std.specs.Ordering.{nat_cmp}
use Rattle.tl_definitions.specs.Managers.{declared_links}
use Rattle.tl_client_rules.proofs.ClientsLaws.{clients_rise}
use Rattle.tl_show.proofs.SurveyLaws.{client_within}
use Rattle.tl_view.proofs.scene.passed.Goals as goal

pub walk-requires : goal.walk-requires
walk-requires c =
    subst (IsStrictlySortedBy nat_cmp) (sym (c.deref.ensures.value ∙ c.in_ok-clients.ensures)) (clients_rise c.args.manager (declared_links c.args.topo.now))

pub see_all-requires-clause-within : goal.see_all-requires-clause-within
see_all-requires-clause-within c k d below =
    client_within c.args.topo.now c.args.manager (get_or c.in_ok-walk.walk k d).link
    (subst (λ links. Contains links (get_or c.in_ok-walk.walk k d).link) (c.deref.ensures.value ∙ c.in_ok-clients.ensures) (c.in_ok-walk.ensures.kept.linked k d below))
