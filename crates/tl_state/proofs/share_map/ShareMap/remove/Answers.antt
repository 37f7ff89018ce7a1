use Rattle.std.proofs.Common.{◌≡◌, ap, ◌∙◌, subst}
use Rattle.std.specs.BTreeMap.{is_at}
use Rattle.std.specs.Map.{remove_entry}
use Rattle.tl_state.specs.Leaves.{all_entries}
use Rattle.tl_state.specs.KeyOrder.{Rises}
use Rattle.tl_state.proofs.MapLemmas.{sets_by_remove}
use Rattle.tl_state.proofs.share_map.ShareMap.remove.Goals as goal
use Rattle.tl_state.proofs.share_map.ShareMap.remove.Goals.{then-is_some, else-is_some}

pub returns-clause-sets : goal.returns-clause-sets
returns-clause-sets g c =
    let is : c.if-is_some.self ≡ all_entries c.remove_in.new.leaves.items = elim c.if-is_some.branch [ then-is_some w ↦ w.self-is | else-is_some w ↦ w.self-is ] in
    sets_by_remove g.met.K.Ord.total c.args.key.now c.args.self.now c.if-is_some.self (subst (Rises g.K.Ord.cmp) c.self.view_is c.self.invariant.rises)
    (is ∙ c.in_ok-old.ensures.ok ∙ ap (remove_entry (is_at (g.K.Ord.cmp c.args.key.now))) c.self.view_is)
