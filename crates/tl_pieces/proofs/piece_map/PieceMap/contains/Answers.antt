use Rattle.std.proofs.Common.{◌∙◌, ap}
use Rattle.std.specs.Prelude.{is_some}
use Rattle.tl_pieces.specs.Pieces.{Board, piece_at}
use Rattle.tl_pieces.proofs.ShowLemmas.{some_shown}
use Rattle.tl_pieces.proofs.piece_map.PieceMap.contains.Goals as goal

pub returns : goal.returns
returns g c = c.contains.ensures ∙ some_shown c.args.key c.self.inside.slots ∙ ap (λ (b : Board g.row.S.Denot g.row.R.Denot). is_some (piece_at c.args.key b)) c.self.view_is
