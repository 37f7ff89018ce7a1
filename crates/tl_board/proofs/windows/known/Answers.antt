use Rattle.tl_board.proofs.windows.known.Goals as goal

pub returns-clause-chains : goal.returns-clause-chains
returns-clause-chains g c settled = c.settled.ensures.chains (c.settled.ensures.settled.1 settled)
