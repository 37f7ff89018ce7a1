use Rattle.std.proofs.Common.{ap, ◌∙◌, is_eq}
use Rattle.tl_state.proofs.SameLemmas.{same_values}
use Rattle.tl_state.proofs.share_map.ShareMapSame.is_same.Goals as goal

pub returns : goal.returns
returns g c =
    same_values g.met.K.Ord.total (λ x y e. (g.met.K.Exact.exact x y).0 (g.met.K.Ord.matches_eq x y ∙ ap is_eq e)) c.args.self.now c.args.other.now c.len-here.ensures.kept c.len-there.ensures.kept _ c.same_entries.ensures
