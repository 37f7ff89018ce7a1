use Rattle.tl_definitions.specs.Managers.{manager_at}
use Rattle.tl_midway.specs.Midway.{beginning_of}
use Rattle.tl_midway.proofs.state.MidwayState.new.Goals as goal

pub returns-clause-stands : goal.returns-clause-stands
returns-clause-stands c regions =
    let m = manager_at c.args.topo.now c.args.manager regions in
    record { readings = c.in_ok-new.ensures.stands regions; pasts = c.in_ok-new-2.ensures regions (beginning_of c.args.law m) }
