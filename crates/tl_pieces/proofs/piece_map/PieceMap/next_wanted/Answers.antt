use Rattle.std.proofs.Common.{sym, subst, None}
use Rattle.tl_pieces.specs.declared.slot.Mark.TheVariants as mark
use Rattle.tl_pieces.specs.Pieces.{Board, IsNextWanted}
use Rattle.tl_pieces.specs.Marks.{shown}
use Rattle.tl_pieces.proofs.SettleLemmas.{next_marked}
use Rattle.tl_pieces.proofs.piece_map.PieceMap.next_wanted.Goals as goal

pub returns : goal.returns
returns g c =
    let os = c.self.inside.openings in
    let es = c.self.inside.slots in
    subst (λ (b : Board g.row.S.Denot g.row.R.Denot). IsNextWanted g.S.Same.same b c.args.key c.first_at_least.result) c.self.view_is
    (subst (λ r. IsNextWanted g.S.Same.same (record { openings = os; pieces = shown es }) c.args.key r) (sym c.first_at_least.ensures) (next_marked g.S.Same.same os c.args.key mark.Wanted None es c.self.invariant))
