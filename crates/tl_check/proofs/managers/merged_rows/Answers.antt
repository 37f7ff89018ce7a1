use Rattle.std.proofs.Common.{get_or, sym, subst}
use Rattle.std.specs.List.{Contains}
use Rattle.std.specs.List.Sorted.{IsStrictlySortedBy}
use Rattle.std.specs.Ordering.{nat_cmp}
use Rattle.std.proofs.lemmas.List.Kept.{IsStrictlySortedBy-filter}
use Rattle.tl_topology.specs.Regions.{areas_of}
use Rattle.tl_definitions.specs.Managers.{declared_links, manager_at}
use Rattle.tl_definitions.specs.Positions.{clients_of}
use Rattle.tl_definitions.proofs.Lists.{kept_from}
use Rattle.tl_client_rules.proofs.ClientsLaws.{clients_rise}
use Rattle.tl_check.specs.Managers.{has_caches}
use Rattle.tl_check.proofs.PassLaws.{merged_are}
use Rattle.tl_check.proofs.managers.merged_rows.Goals as goal

pub walk-requires : goal.walk-requires
walk-requires c =
    subst (IsStrictlySortedBy nat_cmp) (sym c.requires.links)
    (IsStrictlySortedBy-filter nat_cmp (has_caches c.args.topo.now) (clients_of c.args.manager (declared_links c.args.topo.now)) (clients_rise c.args.manager (declared_links c.args.topo.now)))

pub check_window-requires-clause-linked : goal.check_window-requires-clause-linked
check_window-requires-clause-linked c k d below =
    let link = (get_or c.in_ok-walk.walk k d).link in
    (kept_from (has_caches c.args.topo.now) (clients_of c.args.manager (declared_links c.args.topo.now)) link
    (subst (λ links. Contains links link) c.requires.links (c.in_ok-walk.ensures.kept.linked k d below))).0

pub check_window-requires-clause-state : goal.check_window-requires-clause-state
check_window-requires-clause-state c = (c.in_ok-state.ensures (areas_of c.args.regions.now)).is_of

pub returns : goal.returns
returns c =
    merged_are (manager_at c.args.topo.now c.args.manager (areas_of c.args.regions.now)) c.in_ok-state.state c.check_window.new.state c.in_ok-walk.walk _ c.in_ok-rows.rows.items
    (c.in_ok-state.ensures (areas_of c.args.regions.now)).shows c.in_ok-walk.ensures.exact c.in_ok-rows.ensures
