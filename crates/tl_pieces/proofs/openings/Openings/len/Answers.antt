use Rattle.std.proofs.Common.{subst}
use Rattle.tl_pieces.specs.Pieces.{OwnersRise}
use Rattle.tl_pieces.proofs.OpeningLemmas.{rise_shown}
use Rattle.tl_pieces.proofs.openings.Openings.len.Goals as goal

pub returns-clause-order : goal.returns-clause-order
returns-clause-order g c = subst OwnersRise c.self.view_is (rise_shown c.self.inside.states.entries c.len.ensures.ordered)
