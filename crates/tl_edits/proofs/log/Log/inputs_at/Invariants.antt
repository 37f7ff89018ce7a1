use Rattle.std.proofs.Common.{◌≡◌, map, take}
use Rattle.tl_edits.specs.Edits.{plain}
use Rattle.tl_edits.specs.Log.{inputs_after}
use Rattle.tl_edits.proofs.log.Log.inputs_at.Given as goal

-- what the edits so far leave
abbrev pub invariant-loop-edit : goal.invariant-loop-edit
invariant-loop-edit l = l.inputs ≡ inputs_after l.self.topo (map plain (take l.edit-index l.edit-items))
