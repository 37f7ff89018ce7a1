use Rattle.std.proofs.Common.{sym, ap, ◌∙◌}
use Rattle.std.specs.Prelude.{is_some}
use Rattle.tl_pieces.specs.Pieces.{piece_at}
use Rattle.tl_board.proofs.WindowLemmas.{taken, not_there}
use Rattle.tl_board.proofs.windows.take_out.Goals as goal

pub returns-then-contains : goal.returns-then-contains
returns-then-contains g c = taken c.args.pieces.now c.known.ensures.board c.args.key c.remove.new.self c.remove.ensures

pub returns-else-contains : goal.returns-else-contains
returns-else-contains g c = not_there c.args.pieces.now c.known.ensures.board c.args.key (sym (c.if-contains.ensures ∙ ap (λ b. is_some (piece_at c.args.key b)) c.known.ensures.same))
