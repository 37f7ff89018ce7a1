use Rattle.std.proofs.Common.{◌<◌, ◌-◌, ℕ, None}
use Rattle.std.specs.Option.{IfSome, option_map_or}
use Rattle.tl_pieces.specs.declared.key.PieceKey.{PieceKey}
use Rattle.tl_pieces.specs.Pieces.{IsWanted}
use Rattle.tl_board.specs.Tally.{SameTally}
use Rattle.tl_desk.specs.Steps.{IsOut}
use Rattle.tl_desk.proofs.FirstLemmas.{AreFrom, IsFrom}
use Rattle.tl_desk.proofs.recheck.first_waiting.Given as goal

-- All windows of monitors that are out and wanted stand from this number on, and the next one was found.
abbrev pub invariant-loop-found : goal.invariant-loop-found
invariant-loop-found g l = record {
  from : ℕ;
  passed : AreFrom (IsOut l.fn.boxes) (IsWanted SameTally l.fn.windows.board.openings) from None l.fn.windows.board.pieces;
  next : IsFrom (IsOut l.fn.boxes) (IsWanted SameTally l.fn.windows.board.openings) from None l.fn.windows.board.pieces l.found;
  fits : IfSome l.found (λ key. key.owner < 4294967296);
}

abbrev pub decreases-loop-found : goal.decreases-loop-found
decreases-loop-found g l = option_map_or (λ (k : PieceKey). 4294967296 - k.owner) l.found 0
