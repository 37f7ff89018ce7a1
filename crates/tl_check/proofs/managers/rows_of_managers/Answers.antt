use Rattle.std.proofs.Common.{◌≡◌, ◌<◌, ◌≤◌, [], ◌∷◌, ◌++◌, ℕ, List, length, take, get_or, sym, ap, subst, ◌∙◌, arith}
use Rattle.std.proofs.lemmas.List.{take_all, take_more}
use Rattle.tl_topology.specs.Regions.{areas_of}
use Rattle.tl_definitions.specs.Captures.{manager_beats}
use Rattle.tl_definitions.specs.Managers.{manager_at}
use Rattle.tl_definitions.specs.Report.{of_manager}
use Rattle.tl_check.specs.Captured.{areas_at}
use Rattle.tl_check.specs.Found.{AreFound}
use Rattle.tl_check.specs.Managers.{captures_at}
use Rattle.tl_check.proofs.Chunks.{none_found, found_on}
use Rattle.tl_check.proofs.ScratchLaws.{own_areas}
use Rattle.tl_check.proofs.managers.rows_of_managers.Goals as goal

pub loop-manager-init : goal.loop-manager-init
loop-manager-init c = subst (λ rows. AreFound [] rows) (sym c.new-rows.ensures.items) none_found

pub loop-manager-preserved : goal.loop-manager-preserved
loop-manager-preserved c =
    let topo = c.args.topo.now in
    let fs = c.args.present.now in
    let regions = areas_at c.args.regions.now in
    let managers : List ℕ = c.args.managers.now in
    let i : ℕ = c.loop-manager.manager-index in
    let k : ℕ = get_or managers i 0 in
    let own : areas_of c.unwrap_or-own.result.now ≡ regions k = own_areas c.args.regions.now k c.get.result _ c.unwrap_or-own.result c.unwrap_or-own.ensures c.new-none.ensures c.get.ensures.lookup.0 c.get.ensures.lookup.1 in
    let found = subst (λ areas. AreFound (of_manager (manager_at topo k areas) (manager_beats topo fs k) ∷ []) c.in_ok-found.found.items) own c.in_ok-found.ensures in
    subst (λ ns. AreFound (captures_at topo regions fs ns) c.extend_from_slice.new.self.items) (sym (take_more managers i 0 c.loop-manager-test.true))
    (found_on topo regions fs (take i managers) (k ∷ []) c.loop-manager.rows.items c.in_ok-found.found.items c.extend_from_slice.new.self.items c.loop-manager.invariant found
    (c.in_ok-extend_from_slice.ensures.items ∙ ap (λ found. c.loop-manager.rows.items ++ found) c.deref.ensures.value))

pub returns : goal.returns
returns c = record {
  found =
      let managers : List ℕ = c.args.managers.now in
      let past : length managers ≤ c.loop-manager.manager-index = omega arith in
      subst (λ ns. AreFound (captures_at c.args.topo.now (areas_at c.args.regions.now) c.args.present.now ns) c.loop-manager.rows.items) (take_all c.loop-manager.manager-index managers past)
      c.loop-manager.invariant;
}
