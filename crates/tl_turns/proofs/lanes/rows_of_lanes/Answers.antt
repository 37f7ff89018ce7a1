use Rattle.std.proofs.Common.{◌++◌}
use Rattle.std.specs.List.{flat_map}
use Rattle.tl_turns.proofs.lanes.rows_of_lanes.Goals as goal

pub loop-round-preserved : goal.loop-round-preserved
loop-round-preserved g c =
    let had = c.loop-round.invariant in
    let more = c.in_ok-round.ensures c.args.sieve.topo.now had.0 had.1 in
    (had.0 ++ flat_map (λ own. own) more.0, more.3)
