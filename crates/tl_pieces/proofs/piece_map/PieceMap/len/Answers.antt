use Rattle.std.proofs.Common.{◌≡◌, ◌∙◌, ap, subst, true, None}
use Rattle.std.specs.Prelude.{length, is_some}
use Rattle.std.specs.List.{AllByRecursion}
use Rattle.tl_pieces.specs.Keys.{Rises}
use Rattle.tl_pieces.specs.Pieces.{Board, opening_of}
use Rattle.tl_pieces.proofs.SettleLemmas.{owned_marked}
use Rattle.tl_pieces.proofs.ShowLemmas.{count_shown, rises_shown}
use Rattle.tl_pieces.proofs.piece_map.PieceMap.len.Goals as goal

pub returns-clause-exact : goal.returns-clause-exact
returns-clause-exact g c = c.len.ensures.exact ∙ count_shown c.self.inside.slots ∙ ap (λ (b : Board g.row.S.Denot g.row.R.Denot). length b.pieces) c.self.view_is

pub returns-clause-kept : goal.returns-clause-kept
returns-clause-kept g c =
    let es = c.self.inside.slots in
    record {
      owners = c.owners.ensures.order;
      keys = subst (λ (b : Board g.row.S.Denot g.row.R.Denot). Rises b.pieces) c.self.view_is (rises_shown es c.len.ensures.order);
      owned = subst (λ (b : Board g.row.S.Denot g.row.R.Denot). AllByRecursion (λ e. is_some (opening_of e.0.owner b.openings) ≡ true) b.pieces) c.self.view_is (owned_marked g.S.Same.same c.self.inside.openings None es c.self.invariant);
    }
