use Rattle.std.proofs.Common.{◌≡◌, ◌++◌, List, length}
use Rattle.tl_pieces.specs.declared.key.PieceKey.{PieceKey}
use Rattle.tl_pieces.specs.declared.slot.Slot.{Slot}
use Rattle.tl_pieces.specs.Keys.{before}
use Rattle.tl_pieces.specs.Slots.{last_result}
use Rattle.tl_pieces.proofs.slots.Slots.last_result.Given as goal

abbrev pub invariant-loop-at : goal.invariant-loop-at
invariant-loop-at g l = record {
  last : last_result l.key.owner l.earlier ≡ last_result l.key.owner (before l.key l.self);
  part : (zs : List (PieceKey × Slot g.row.S.Denot g.row.R.Denot)) × (before l.key l.self ≡ l.earlier ++ zs);
}

abbrev pub decreases-loop-at : goal.decreases-loop-at
decreases-loop-at g l = length l.earlier
