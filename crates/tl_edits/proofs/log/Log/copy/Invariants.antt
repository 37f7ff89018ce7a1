use Rattle.std.proofs.Common.{◌≡◌, map, take}
use Rattle.tl_edits.specs.Edits.{plain}
use Rattle.tl_edits.proofs.log.Log.copy.Given as goal

-- the edits so far
abbrev pub invariant-loop-edit : goal.invariant-loop-edit
invariant-loop-edit l = map plain l.edits.items ≡ map plain (take l.edit-index l.edit-items)
