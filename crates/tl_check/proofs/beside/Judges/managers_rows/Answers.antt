use Rattle.std.proofs.Common.{◌≡◌, [], ◌∷◌, length, rules, sym, ap, subst, ◌∙◌}
use Rattle.tl_topology.specs.Regions.{areas_of}
use Rattle.tl_definitions.specs.Captures.{manager_beats}
use Rattle.tl_definitions.specs.Managers.{manager_at}
use Rattle.tl_definitions.specs.Report.{of_manager}
use Rattle.tl_check.specs.Captured.{areas_at}
use Rattle.tl_check.specs.Found.{AreFound}
use Rattle.tl_check.specs.Managers.{captures_at}
use Rattle.tl_check.proofs.Chunks.{by_numbers, only_manager}
use Rattle.tl_check.proofs.ScratchLaws.{own_areas}
use Rattle.tl_check.proofs.beside.Judges.managers_rows.Goals as goal

pub returns-then-len-eq1 : goal.returns-then-len-eq1
returns-then-len-eq1 g c =
    let topo = c.args.topo.now in
    let regions = areas_at c.args.regions.now in
    let fs = c.args.present.now in
    let rows = c.in_ok-found.found.items in
    let count : length c.in_ok-managers.managers.items ≡ 1 = search rules in
    let own : areas_of c.unwrap_or-own.result.now ≡ regions 0 = own_areas c.args.regions.now 0 c.get.result _ c.unwrap_or-own.result c.unwrap_or-own.ensures c.new-none.ensures c.get.ensures.lookup.0 c.get.ensures.lookup.1 in
    let found = subst (λ areas. AreFound (of_manager (manager_at topo 0 areas) (manager_beats topo fs 0) ∷ []) rows) own c.in_ok-found.ensures in
    subst (λ cs. AreFound cs rows) (sym (only_manager topo regions fs topo.managers (sym (ap length c.in_ok-managers.ensures.exact) ∙ count))) found

pub returns : goal.returns
returns g c =
    let topo = c.args.topo.now in
    let regions = areas_at c.args.regions.now in
    let fs = c.args.present.now in
    subst (λ cs. AreFound cs c.in_ok-rows.rows.items)
    (ap (captures_at topo regions fs) (c.deref.ensures.value ∙ c.in_ok-managers.ensures.exact) ∙ sym (by_numbers topo regions fs 0 topo.managers)) c.in_ok-rows.ensures.found
