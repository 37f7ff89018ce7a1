use Rattle.tl_topology.specs.Regions.{areas_of}
use Rattle.tl_definitions.specs.Managers.{manager_at}
use Rattle.tl_definitions.specs.Rules.{Manager}
use Rattle.tl_check.proofs.WalkedLaws.{judged}
use Rattle.tl_check.proofs.walked.check_window.Goals as goal

pub returns : goal.returns
returns c =
    let m : Manager = manager_at c.args.topo.now c.args.manager (areas_of c.args.regions.now) in
    judged m c.args.state.now c.go_on.new.state c.args.walk c.in_ok-rows.rows.items c.sort_rows.result.items c.requires.rises
    c.in_ok-rows.ensures c.sort_rows.ensures.rises c.sort_rows.ensures.members
