use Rattle.std.proofs.Common.{drop}
use Rattle.tl_definitions.specs.Positions.{beats_of_all}
use Rattle.tl_pieces.specs.Pieces.{Board}
use Rattle.tl_capture.specs.Windows.{HasBeat}
use Rattle.tl_board.specs.Windows.{IsPruned}
use Rattle.tl_board.proofs.windows.prune.Given as goal

-- what prunes those that are left prunes all
abbrev pub invariant-loop-key : goal.invariant-loop-key
invariant-loop-key g l =
    (final : Board g.row.S.Denot g.row.R.Denot) → IsPruned (HasBeat (beats_of_all l.links l.present)) (drop l.key-index l.keys) l.pieces final
    → IsPruned (HasBeat (beats_of_all l.links l.present)) l.keys l.initial.pieces final
