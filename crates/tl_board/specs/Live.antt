-- States that go on from window to window.
use Rattle.std.specs.Prelude.{◌≡◌, List, Option, Some}
use Rattle.std.specs.Option.{option_map}
use Rattle.tl_beats.specs.declared.Row.{Row}
use Rattle.tl_pieces.specs.declared.key.PieceKey.{PieceKey}
use Rattle.tl_pieces.specs.Pieces.{Board, Pass, piece_at, result_of}
use Rattle.tl_check.specs.States.{SameSpan}
use Rattle.tl_check.specs.declared.state.SpanState.{SpanState}
use Rattle.tl_board.specs.declared.checking.Live.{Live}

-- The window has a result, and the state shows what that left.
abbrev pub IsLive : Board SpanState (List Row) → Live → Type 0
IsLive board live = (result : Pass SpanState (List Row)) × (result_of (piece_at live.key board) ≡ Some result) × SameSpan result.exit live.state

-- The window that it goes on after.
abbrev pub window_of : Option Live → Option PieceKey
window_of live = option_map (λ (l : Live). l.key) live
