use Rattle.tl_pieces.proofs.TouchedLemmas.{IsDoneTo, left_after}
use Rattle.tl_pieces.proofs.piece_map.PieceMap.touch_all.Given as goal

abbrev pub invariant-loop-next : goal.invariant-loop-next
invariant-loop-next g l = IsDoneTo l.owner l.fn.self l.self l.next

abbrev pub decreases-loop-next : goal.decreases-loop-next
decreases-loop-next g l = left_after l.next l.self.pieces
