use Rattle.std.proofs.Common.{◌≡◌, ◌∙◌, ap, sym, subst, None}
use Rattle.std.specs.Arc.{arc_value}
use Rattle.tl_pieces.specs.Pieces.{Board, opening_of}
use Rattle.tl_pieces.specs.Marks.{IsMarked}
use Rattle.tl_pieces.proofs.MarkLemmas.{marked_openings}
use Rattle.tl_pieces.proofs.OpeningLemmas.{opening_put}
use Rattle.tl_pieces.proofs.piece_map.PieceMap.add_owner.Goals as goal

pub invariant_of-self-2 : goal.invariant_of-self-2
invariant_of-self-2 g c =
    let os = c.self.inside.openings in
    let o = c.args.owner in
    let none : opening_of o os ≡ None = ap (λ (b : Board g.row.S.Denot g.row.R.Denot). opening_of o b.openings) c.self.view_is ∙ c.requires in
    subst (λ ps. IsMarked g.S.Same.same ps None c.self.inside.slots) (sym c.in_ok-put.ensures.ok)
    (marked_openings g.S.Same.same os _ (opening_put o (arc_value c.args.opening) os none) None c.self.inside.slots c.self.invariant)
