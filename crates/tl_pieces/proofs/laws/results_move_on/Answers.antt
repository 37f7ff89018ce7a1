use Rattle.tl_pieces.proofs.MoveLemmas.{moves}
use Rattle.std.proofs.Common.{None}
use Rattle.tl_pieces.proofs.laws.results_move_on.Goals as goal

pub returns : goal.returns
returns g c b key next r entry board first begins alike new = moves g.S.Same.same b.openings key next r entry alike None b.pieces board.keys tt begins first new
