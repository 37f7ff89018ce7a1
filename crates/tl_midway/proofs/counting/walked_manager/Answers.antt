use Rattle.std.proofs.Common.{◌≡◌, ℕ, List, refl, sym, ap, subst, ◌∙◌}
use Rattle.std.specs.Io.Iter.{u64_saturate}
use Rattle.std.specs.List.{All, Contains}
use Rattle.std.specs.List.Sorted.{IsStrictlySortedBy}
use Rattle.std.specs.Ordering.{nat_cmp}
use Rattle.tl_topology.specs.Regions.{areas_of}
use Rattle.tl_beats.specs.declared.Placed.{Placed}
use Rattle.tl_beats.specs.declared.Row.{Row}
use Rattle.tl_definitions.specs.Captures.{manager_beats}
use Rattle.tl_definitions.specs.Managers.{declared_links, manager_at}
use Rattle.tl_definitions.specs.Positions.{beats_of_all}
use Rattle.tl_client_rules.proofs.ClientsLaws.{clients_rise}
use Rattle.tl_midway.specs.Counts.{counted}
use Rattle.tl_midway.specs.LeadIns.{leads_in}
use Rattle.tl_midway.specs.Walked.{rows_by}
use Rattle.tl_midway.specs.declared.counts.Counts.{Counts}
use Rattle.tl_midway.proofs.NoLeadIns.{lead_ins_added}
use Rattle.tl_midway.proofs.counting.walked_manager.Goals as goal

pub walk-requires : goal.walk-requires
walk-requires c = subst (IsStrictlySortedBy nat_cmp) (sym (c.deref.ensures.value ∙ c.in_ok-links.ensures)) (clients_rise c.args.manager (declared_links c.args.topo.now))

pub midway_rows-requires-clause-linked : goal.midway_rows-requires-clause-linked
midway_rows-requires-clause-linked c =
    subst (λ ls. All (λ (p : Placed). Contains ls p.link) c.in_ok-walk.walk) (c.deref.ensures.value ∙ c.in_ok-links.ensures) c.in_ok-walk.ensures.kept.linked

pub returns-clause-rows : goal.returns-clause-rows
returns-clause-rows c row =
    let whole : c.in_ok-walk.walk ≡ manager_beats c.args.topo.now c.args.present.now c.args.manager =
    c.in_ok-walk.ensures.exact ∙ ap (λ (ls : List ℕ). beats_of_all ls c.args.present.now) (c.deref.ensures.value ∙ c.in_ok-links.ensures) in
    let fs = c.args.present.now in
    let m = manager_at c.args.topo.now c.args.manager (areas_of c.args.regions.now) in
    let law = c.args.counts.now.law in
    let are : c.in_ok-found.found.rows.items ≡ rows_by law m (manager_beats c.args.topo.now fs c.args.manager) = c.in_ok-found.ensures.exact ∙ ap (rows_by law m) whole in
    ((λ h. subst (λ (rows : List Row). Contains rows row) are h), (λ h. subst (λ (rows : List Row). Contains rows row) (sym are) h))

pub returns-clause-counts : goal.returns-clause-counts
returns-clause-counts c n has =
    let whole : c.in_ok-walk.walk ≡ manager_beats c.args.topo.now c.args.present.now c.args.manager =
    c.in_ok-walk.ensures.exact ∙ ap (λ (ls : List ℕ). beats_of_all ls c.args.present.now) (c.deref.ensures.value ∙ c.in_ok-links.ensures) in
    let m = manager_at c.args.topo.now c.args.manager (areas_of c.args.regions.now) in
    let old : Counts = c.args.counts.now in
    let new : Counts = record old { lead_ins = c.saturating_add-counts.result } in
    let beats = manager_beats c.args.topo.now c.args.present.now c.args.manager in
    lead_ins_added old.law m beats old new c.in_ok-found.found.lead_ins n c.requires refl refl c.saturating_add-counts.ensures
    (c.in_ok-found.ensures.lead_ins ∙ ap (λ ps. u64_saturate (counted leads_in old.law m ps)) whole) has
