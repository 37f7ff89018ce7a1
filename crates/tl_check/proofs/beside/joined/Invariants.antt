use Rattle.std.proofs.Common.{take}
use Rattle.tl_check.specs.Beside.{AreJoined}
use Rattle.tl_check.proofs.beside.joined.Given as goal

-- what is put together so far are the rows of the parts so far
abbrev pub invariant-loop-part : goal.invariant-loop-part
invariant-loop-part l = AreJoined (take l.part-index l.parts) l.rows.items
