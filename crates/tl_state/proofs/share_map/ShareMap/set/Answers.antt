use Rattle.std.proofs.Common.{◌≡◌, ap, ◌∙◌}
use Rattle.std.specs.BTreeMap.{insert_entry}
use Rattle.tl_state.specs.Leaves.{all_entries}
use Rattle.tl_state.proofs.MapLemmas.{sets_by_insert}
use Rattle.tl_state.proofs.share_map.ShareMap.set.Goals as goal
use Rattle.tl_state.proofs.share_map.ShareMap.set.Goals.{then-is_none, else-is_none}

pub returns-clause-sets : goal.returns-clause-sets
returns-clause-sets g c =
    let is : c.if-is_none.self ≡ all_entries c.set_in.new.leaves.items = elim c.if-is_none.branch [ then-is_none w ↦ w.self-is | else-is_none w ↦ w.self-is ] in
    sets_by_insert g.met.K.Ord.total c.args.key c.args.self.now c.if-is_none.self c.args.value (is ∙ c.in_ok-old.ensures.ok ∙ ap (λ t. insert_entry g.K.Ord.cmp t c.args.key c.args.value) c.self.view_is)
