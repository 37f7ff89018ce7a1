use Rattle.std.proofs.Common.{None, ap, ◌∙◌}
use Rattle.tl_pieces.specs.Keys.{change}
use Rattle.tl_pieces.specs.Marks.{pass_of}
use Rattle.tl_pieces.specs.Pieces.{Board, with_live, with_pieces, with_result}
use Rattle.tl_board.proofs.CheckLemmas.{change_twice}
use Rattle.tl_board.proofs.windows.keep.Goals as goal

pub returns : goal.returns
returns g c =
    c.set_live.ensures ∙ ap (λ (b : Board g.row.S.Denot g.row.R.Denot). with_pieces b (change c.args.key (with_live None) b.pieces)) c.store.ensures
    ∙ ap (with_pieces c.args.pieces.now) (change_twice c.args.key (with_result (pass_of c.args.stored)) (with_live None) c.args.pieces.now.pieces)
