use Rattle.std.proofs.Common.{◌≡◌, ◌<◌, ◌-◌, ℕ, true, None}
use Rattle.std.specs.Prelude.{is_some}
use Rattle.std.specs.Option.{IfSome, option_map_or}
use Rattle.tl_pieces.specs.declared.key.PieceKey.{PieceKey}
use Rattle.tl_pieces.specs.Pieces.{piece_at, IsFree}
use Rattle.tl_board.specs.Tally.{SameTally}
use Rattle.tl_desk.specs.Jobs.{IsHere}
use Rattle.tl_desk.proofs.FirstLemmas.{AreFrom, IsFrom}
use Rattle.tl_desk.proofs.monitor_jobs.first_here.Given as goal

-- All windows of monitors that are here, wanted and without tickets, stand from this number on, and the next one was found.
abbrev pub invariant-loop-found : goal.invariant-loop-found
invariant-loop-found g l = record {
  from : ℕ;
  passed : AreFrom (IsHere l.fn.boxes) (IsFree SameTally l.fn.windows.board.openings) from None l.fn.windows.board.pieces;
  next : IsFrom (IsHere l.fn.boxes) (IsFree SameTally l.fn.windows.board.openings) from None l.fn.windows.board.pieces l.found;
  there : IfSome l.found (λ key. is_some (piece_at key l.fn.windows.board) ≡ true);
  fits : IfSome l.found (λ key. key.owner < 4294967296);
}

abbrev pub decreases-loop-found : goal.decreases-loop-found
decreases-loop-found g l = option_map_or (λ (k : PieceKey). 4294967296 - k.owner) l.found 0
