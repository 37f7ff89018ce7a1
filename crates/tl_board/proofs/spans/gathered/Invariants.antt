use Rattle.std.proofs.Common.{◌≡◌, ◌++◌}
use Rattle.tl_board.specs.Rows.{all_rows}
use Rattle.tl_pieces.specs.PieceWalk.{pieces_left}
use Rattle.tl_board.proofs.spans.gathered.Given as goal

-- those so far and those of the pieces that are left are all
abbrev pub invariant-loop-piece : goal.invariant-loop-piece
invariant-loop-piece g l = l.rows.items ++ all_rows (pieces_left l.piece-iterator) ≡ all_rows l.pieces.pieces
