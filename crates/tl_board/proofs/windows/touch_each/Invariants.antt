use Rattle.std.proofs.Common.{drop}
use Rattle.tl_pieces.specs.Pieces.{Board}
use Rattle.tl_board.specs.Windows.{AreBlank}
use Rattle.tl_board.proofs.windows.touch_each.Given as goal

-- what makes those that are left blank makes all blank
abbrev pub invariant-loop-key : goal.invariant-loop-key
invariant-loop-key g l =
    (final : Board g.row.S.Denot g.row.R.Denot) → AreBlank (drop l.key-index l.keys) l.pieces final → AreBlank l.keys l.initial.pieces final
