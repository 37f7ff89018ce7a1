use Rattle.std.proofs.Common.{◌<◌, length, get_or, sym, subst, ◌∙◌}
use Rattle.std.specs.List.{Contains}
use Rattle.std.specs.List.Sorted.{IsStrictlySortedBy}
use Rattle.std.specs.Ordering.{nat_cmp}
use Rattle.tl_beats.specs.declared.Placed.{Placed}
use Rattle.tl_definitions.specs.Managers.{declared_links}
use Rattle.tl_client_rules.proofs.ClientsLaws.{clients_rise}
use Rattle.tl_show.proofs.SurveyLaws.{client_within}
use Rattle.tl_show.proofs.trail.Trail.follow.Goals as goal

pub walk_between-requires-clause-links : goal.walk_between-requires-clause-links
walk_between-requires-clause-links c =
    subst (IsStrictlySortedBy nat_cmp) (sym (c.deref.ensures.value ∙ c.in_ok-links.ensures)) (clients_rise c.args.completed.now.manager (declared_links c.args.completed.now.topo.now))

pub see-requires-clause-within : goal.see-requires-clause-within
see-requires-clause-within c k d below =
    client_within c.args.completed.now.topo.now c.args.completed.now.manager (get_or c.in_ok-walk.walk k d).link
    (subst (λ links. Contains links (get_or c.in_ok-walk.walk k d).link) (c.deref.ensures.value ∙ c.in_ok-links.ensures) (c.in_ok-walk.ensures.kept.linked k d below))
