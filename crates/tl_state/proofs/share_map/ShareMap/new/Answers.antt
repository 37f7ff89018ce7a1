use Rattle.tl_state.proofs.CopyLemmas.{empty_map}
use Rattle.tl_state.proofs.share_map.ShareMap.new.Goals as goal

pub invariant_of-result : goal.invariant_of-result
invariant_of-result g c = empty_map g.K.Ord.cmp c.new.result.items c.new.ensures.items
