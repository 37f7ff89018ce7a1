use Rattle.std.proofs.Common.{◌≡◌, ◌∙◌, ◌==◌, ap, sym, subst, false, None}
use Rattle.std.specs.List.{AllByRecursion}
use Rattle.tl_pieces.specs.declared.key.PieceKey.{PieceKey}
use Rattle.tl_pieces.specs.Keys.{without}
use Rattle.tl_pieces.specs.Pieces.{Piece}
use Rattle.tl_pieces.specs.Marks.{shown, IsMarked}
use Rattle.tl_pieces.proofs.OwnerLemmas.{others}
use Rattle.tl_pieces.proofs.MarkLemmas.{marked_without}
use Rattle.tl_pieces.proofs.piece_map.PieceMap.remove_owner.Goals as goal

pub invariant_of-self : goal.invariant_of-self
invariant_of-self g c =
    let o = c.args.owner in
    let es = c.self.inside.slots in
    let left : without o c.args.self.now.pieces ≡ shown es = sym (ap (λ b. b.pieces) c.self.view_is ∙ ap (λ b. b.pieces) c.clear.ensures) in
    subst (λ ps. IsMarked g.S.Same.same ps None es) (sym c.take.ensures)
    (marked_without g.S.Same.same c.self.inside.openings o None es
    (subst (AllByRecursion (λ (e : PieceKey × Piece g.row.S.Denot g.row.R.Denot). (e.0.owner == o) ≡ false)) left (others o c.args.self.now.pieces)) c.self.invariant)
