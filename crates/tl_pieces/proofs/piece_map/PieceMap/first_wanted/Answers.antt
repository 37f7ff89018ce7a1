use Rattle.std.proofs.Common.{◌∙◌, sym, subst, None}
use Rattle.std.specs.Prelude.{IfSome}
use Rattle.tl_pieces.specs.declared.slot.Mark.TheVariants as mark
use Rattle.tl_pieces.specs.Pieces.{Board, IsFirstWanted, HasTrueEntry}
use Rattle.tl_pieces.specs.Marks.{shown}
use Rattle.tl_pieces.proofs.ReadyLemmas.{if_some, true_entry}
use Rattle.tl_pieces.proofs.SettleLemmas.{first_marked}
use Rattle.tl_pieces.proofs.piece_map.PieceMap.first_wanted.Goals as goal

pub returns-clause-first : goal.returns-clause-first
returns-clause-first g c =
    let os = c.self.inside.openings in
    let es = c.self.inside.slots in
    subst (λ (b : Board g.row.S.Denot g.row.R.Denot). IsFirstWanted g.S.Same.same b c.first_wanted.result) c.self.view_is
    (subst (λ r. IsFirstWanted g.S.Same.same (record { openings = os; pieces = shown es }) r) (sym c.first_wanted.ensures.found) (first_marked g.S.Same.same os mark.Wanted None es c.self.invariant))

pub returns-clause-entry : goal.returns-clause-entry
returns-clause-entry g c =
    let es = c.self.inside.slots in
    subst (λ (b : Board g.row.S.Denot g.row.R.Denot). IfSome c.first_wanted.result (λ k. HasTrueEntry g.S.Same.same b k)) c.self.view_is
    (if_some c.first_wanted.result _ (λ k some. true_entry g.S.Same.same c.self.inside.openings es k c.first_wanted.ensures.order c.self.invariant (sym c.first_wanted.ensures.found ∙ some)))
