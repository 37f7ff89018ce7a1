use Rattle.std.proofs.Common.{rules}
use Rattle.tl_edits.specs.Edits.{plain}
use Rattle.tl_edits.proofs.LogLaws.{kept_alike, copied_whole}
use Rattle.tl_edits.proofs.log.Log.copy.Goals as goal

pub invariant_of-result : goal.invariant_of-result
invariant_of-result c =
    kept_alike plain c.self.inside.edits.items c.loop-edit.edits.items c.self.inside.inputs c.in_ok-copy-2.field-0 c.self.invariant.0 c.self.invariant.1 (search rules)
    (copied_whole plain c.deref-edit-items.result.now c.loop-edit.edits.items c.self.inside.edits.items c.loop-edit.edit-index c.loop-edit.invariant (search rules) (search rules))
