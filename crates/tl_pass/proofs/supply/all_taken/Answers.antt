use Rattle.tl_pass.proofs.supply.all_taken.Goals as goal

pub returns : goal.returns
returns g c =
    let had = c.loop.invariant in
    (had.0, had.1, λ midway begins. record { within = had.4; count = had.2; report = c.in_ok-found.ensures midway c.args.topo.now _ (had.5 midway begins) })
