use Rattle.std.proofs.Common.{◌∙◌, ap}
use Rattle.tl_pieces.specs.Pieces.{Board}
use Rattle.tl_pieces.proofs.piece_map.PieceMap.iter.Goals as goal

pub returns : goal.returns
returns g c = c.walk.ensures ∙ ap (λ (b : Board g.row.S.Denot g.row.R.Denot). b.pieces) c.self.view_is
