use Rattle.std.proofs.Common.{[], sym, ap, ◌∙◌}
use Rattle.std.specs.Io.Iter.{u64_saturate}
use Rattle.std.specs.Prelude.{reverse}
use Rattle.tl_topology.specs.Regions.{areas_of}
use Rattle.tl_definitions.specs.Managers.{manager_at}
use Rattle.tl_definitions.specs.Rules.{Manager}
use Rattle.tl_midway.specs.Midway.{beginning_of}
use Rattle.tl_midway.proofs.LeadInsByLink.{in_order}
use Rattle.tl_midway.proofs.WalkLaws.{are_certain}
use Rattle.tl_midway.proofs.walked.midway_rows.Goals as goal

pub walk_on-requires-clause-state : goal.walk_on-requires-clause-state
walk_on-requires-clause-state c =
    let areas = areas_of c.args.regions.now in
    let m : Manager = manager_at c.args.topo.now c.args.manager areas in
    record { known = c.in_ok-state.ensures.known; start = beginning_of c.args.law m; before = []; stands = c.in_ok-state.ensures.stands areas }

pub returns-clause-exact : goal.returns-clause-exact
returns-clause-exact c =
    let areas = areas_of c.args.regions.now in
    let m : Manager = manager_at c.args.topo.now c.args.manager areas in
    (c.in_ok-rows.ensures.goes (beginning_of c.args.law m) [] (c.in_ok-state.ensures.stands areas)).1

pub returns-clause-certain : goal.returns-clause-certain
returns-clause-certain c =
    let m : Manager = manager_at c.args.topo.now c.args.manager (areas_of c.args.regions.now) in
    are_certain c.args.law m c.args.walk c.in_ok-rows.rows.items (returns-clause-exact c)

pub returns-clause-lead_ins : goal.returns-clause-lead_ins
returns-clause-lead_ins c =
    let areas = areas_of c.args.regions.now in
    let m : Manager = manager_at c.args.topo.now c.args.manager areas in
    let start = beginning_of c.args.law m in
    c.lead_ins.ensures m start (reverse c.args.walk) (c.in_ok-rows.ensures.goes start [] (c.in_ok-state.ensures.stands areas)).0
    ∙ ap u64_saturate (sym (in_order m start c.args.walk))
