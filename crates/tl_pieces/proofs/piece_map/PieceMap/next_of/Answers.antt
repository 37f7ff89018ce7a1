use Rattle.std.proofs.Common.{◌∙◌, ap, subst}
use Rattle.tl_pieces.specs.Keys.{after, first_key, owned_by, Rises}
use Rattle.tl_pieces.specs.Pieces.{Board}
use Rattle.tl_pieces.proofs.OwnerLemmas.{next_owned}
use Rattle.tl_pieces.proofs.ShowLemmas.{first_owned_shown, after_shown, rises_shown}
use Rattle.tl_pieces.proofs.piece_map.PieceMap.next_of.Goals as goal

pub returns-clause-key : goal.returns-clause-key
returns-clause-key g c =
    let k = c.args.key in
    let es = c.self.inside.slots in
    c.next_of_owner.ensures.key ∙ next_owned k es c.next_of_owner.ensures.order ∙ first_owned_shown k.owner (after k es) ∙ ap (λ t. first_key (owned_by k.owner t)) (after_shown k es)
    ∙ ap (λ (b : Board g.row.S.Denot g.row.R.Denot). first_key (owned_by k.owner (after k b.pieces))) c.self.view_is

pub returns-clause-order : goal.returns-clause-order
returns-clause-order g c = subst (λ (b : Board g.row.S.Denot g.row.R.Denot). Rises b.pieces) c.self.view_is (rises_shown c.self.inside.slots c.next_of_owner.ensures.order)
