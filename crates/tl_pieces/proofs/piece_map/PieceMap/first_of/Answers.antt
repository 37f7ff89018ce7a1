use Rattle.std.proofs.Common.{◌∙◌, ap, subst}
use Rattle.tl_pieces.specs.Keys.{first_key, owned_by, Rises}
use Rattle.tl_pieces.specs.Pieces.{Board}
use Rattle.tl_pieces.proofs.OwnerLemmas.{begin_owned}
use Rattle.tl_pieces.proofs.ShowLemmas.{first_owned_shown, rises_shown}
use Rattle.tl_pieces.proofs.piece_map.PieceMap.first_of.Goals as goal

pub returns-clause-key : goal.returns-clause-key
returns-clause-key g c =
    let es = c.self.inside.slots in
    c.first_of_owner.ensures.key ∙ begin_owned c.args.owner es c.first_of_owner.ensures.order ∙ first_owned_shown c.args.owner es ∙ ap (λ (b : Board g.row.S.Denot g.row.R.Denot). first_key (owned_by c.args.owner b.pieces)) c.self.view_is

pub returns-clause-order : goal.returns-clause-order
returns-clause-order g c = subst (λ (b : Board g.row.S.Denot g.row.R.Denot). Rises b.pieces) c.self.view_is (rises_shown c.self.inside.slots c.first_of_owner.ensures.order)
