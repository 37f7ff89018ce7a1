use Rattle.std.proofs.Common.{◌≡◌, ◌-◌, List, length}
use Rattle.std.specs.Prelude.{IfSome}
use Rattle.tl_pieces.specs.declared.key.PieceKey.{PieceKey}
use Rattle.tl_check.specs.States.{SameSpan}
use Rattle.tl_board.specs.Live.{IsLive}
use Rattle.tl_board.proofs.RecheckLemmas.{IsUnderWay}
use Rattle.tl_board.proofs.spans.Spans.recheck_now.Given as goal

-- so many windows were checked so far, the log is as it was, and the state that goes on shows what its window left
abbrev pub invariant-loop-alloc : goal.invariant-loop-alloc
invariant-loop-alloc l = record {
  live : IfSome l.live (IsLive l.self.board);
  log : l.self.log ≡ l.fn.self.log;
  keys : List PieceKey;
  number : l.count ≡ length keys;
  way : IsUnderWay SameSpan keys l.fn.self.board l.self.board;
}

abbrev pub decreases-loop-alloc : goal.decreases-loop-alloc
decreases-loop-alloc l = length l.fn.self.board.pieces - l.count
