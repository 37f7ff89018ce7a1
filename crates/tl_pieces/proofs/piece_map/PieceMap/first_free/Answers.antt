use Rattle.std.proofs.Common.{sym, subst, None}
use Rattle.tl_pieces.specs.declared.slot.Mark.TheVariants as mark
use Rattle.tl_pieces.specs.Pieces.{Board, IsFirstFree}
use Rattle.tl_pieces.specs.Marks.{shown}
use Rattle.tl_pieces.proofs.SettleLemmas.{first_marked}
use Rattle.tl_pieces.proofs.piece_map.PieceMap.first_free.Goals as goal

pub returns-clause-first : goal.returns-clause-first
returns-clause-first g c =
    let os = c.self.inside.openings in
    let es = c.self.inside.slots in
    subst (λ (b : Board g.row.S.Denot g.row.R.Denot). IsFirstFree g.S.Same.same b c.first_free.result) c.self.view_is
    (subst (λ r. IsFirstFree g.S.Same.same (record { openings = os; pieces = shown es }) r) (sym c.first_free.ensures.found) (first_marked g.S.Same.same os mark.Free None es c.self.invariant))
