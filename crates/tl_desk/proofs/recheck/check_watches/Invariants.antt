use Rattle.std.proofs.Common.{◌≡◌, ◌-◌, List, length}
use Rattle.tl_pieces.specs.declared.key.PieceKey.{PieceKey}
use Rattle.tl_board.proofs.RecheckLemmas.{IsUnderWay}
use Rattle.tl_board.specs.Tally.{SameTally}
use Rattle.tl_desk.specs.Steps.{KeepsBoxes, LeavesTallies, NoneIsOut}
use Rattle.tl_desk.proofs.recheck.check_watches.Given as goal

-- so many windows were checked so far; those of managers, and the monitors but for their tallies, which are those amid their windows, are
-- as they were
abbrev pub invariant-loop-alloc : goal.invariant-loop-alloc
invariant-loop-alloc g l = record {
  spans : l.windows.spans ≡ l.fn.windows.spans;
  boxes : KeepsBoxes l.fn.boxes l.boxes;
  left : LeavesTallies l.windows l.fn.boxes l.boxes;
  here : NoneIsOut l.fn.boxes l.windows.board;
  keys : List PieceKey;
  number : l.count ≡ length keys;
  way : IsUnderWay SameTally keys l.fn.windows.board l.windows.board;
}

abbrev pub decreases-loop-alloc : goal.decreases-loop-alloc
decreases-loop-alloc g l = length l.fn.windows.board.pieces - l.count
