use Rattle.std.proofs.Common.{drop}
use Rattle.tl_board.specs.Windows.{IsGrown}
use Rattle.tl_board.proofs.WindowLemmas.{AreThereOr}
use Rattle.tl_board.proofs.windows.grow.Given as goal

-- blank pieces alone have come, and the keys that are not left have theirs
abbrev pub invariant-loop-key : goal.invariant-loop-key
invariant-loop-key g l = IsGrown l.keys l.initial.pieces l.pieces × AreThereOr l.keys (drop l.key-index l.keys) l.pieces
