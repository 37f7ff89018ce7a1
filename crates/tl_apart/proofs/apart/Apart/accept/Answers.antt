use Rattle.tl_apart.proofs.apart.Apart.accept.Goals as goal

pub returns : goal.returns
returns c topo fs had =
    let took = c.in_ok-manager.ensures.came topo fs had in
    let on = took.1 in (on.0, on.1, c.in_ok-catch_up.ensures topo _ on.2 took.0)
