use Rattle.std.proofs.Common.{◌≡◌, length}
use Rattle.tl_pieces.specs.Keys.{without}
use Rattle.tl_pieces.specs.Pieces.{with_pieces}
use Rattle.tl_pieces.proofs.piece_map.PieceMap.clear.Given as goal

abbrev pub invariant-loop-key : goal.invariant-loop-key
invariant-loop-key g l = record {
  kept : l.self ≡ with_pieces l.fn.self l.self.pieces;
  others : without l.owner l.self.pieces ≡ without l.owner l.fn.self.pieces;
}

abbrev pub decreases-loop-key : goal.decreases-loop-key
decreases-loop-key g l = length l.self.pieces
