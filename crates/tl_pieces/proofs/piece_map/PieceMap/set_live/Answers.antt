use Rattle.std.proofs.Common.{◌∙◌, ap, sym, subst, None}
use Rattle.tl_pieces.specs.Keys.{change}
use Rattle.tl_pieces.specs.Pieces.{with_live}
use Rattle.tl_pieces.specs.Marks.{shown, IsMarked}
use Rattle.tl_pieces.proofs.MarkLemmas.{marked_live}
use Rattle.tl_pieces.proofs.ShowLemmas.{shown_live, board_step}
use Rattle.tl_pieces.proofs.piece_map.PieceMap.set_live.Goals as goal

pub invariant_of-self : goal.invariant_of-self
invariant_of-self g c =
    subst (IsMarked g.S.Same.same c.self.inside.openings None) (sym c.change.ensures.slots) (marked_live g.S.Same.same c.self.inside.openings c.args.key c.args.live None c.self.inside.slots c.self.invariant)

pub returns : goal.returns
returns g c =
    board_step (record { openings = c.self.inside.openings; pieces = shown c.self.inside.slots }) c.args.self.now c.self.view_is (change c.args.key (with_live c.args.live)) (shown c.change.new.self)
    (ap shown c.change.ensures.slots ∙ shown_live c.args.key c.args.live c.self.inside.slots)
