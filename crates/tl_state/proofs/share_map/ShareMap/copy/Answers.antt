use Rattle.std.proofs.Common.{◌∙◌}
use Rattle.tl_state.proofs.CopyLemmas.{shared_entries, shared_map}
use Rattle.tl_state.proofs.share_map.ShareMap.copy.Goals as goal

pub invariant_of-result : goal.invariant_of-result
invariant_of-result g c = shared_map g.K.Ord.cmp c.self.inside.leaves.items c.in_ok-clone.field-0.items c.self.inside.len c.in_ok-clone.ensures.cases.0 c.self.invariant

pub returns : goal.returns
returns g c = shared_entries c.self.inside.leaves.items c.in_ok-clone.field-0.items c.in_ok-clone.ensures.cases.0 ∙ c.self.view_is
