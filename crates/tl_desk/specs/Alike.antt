-- Desks that have the same.
use Rattle.std.specs.Prelude.{ℕ, ◌≡◌, List, Option, Some, None}
use Rattle.std.specs.Option.{option_map}
use Rattle.tl_beats.specs.declared.Row.{Row}
use Rattle.tl_beats.specs.declared.watch.Watch.{Watch}
use Rattle.tl_monitor.specs.Boxes.{BoxesData, place_at}
use Rattle.tl_monitor.specs.Places.{Place, Here, Out}
use Rattle.tl_pieces.specs.declared.key.PieceKey.{PieceKey}
use Rattle.tl_pieces.specs.Pieces.{Board, Piece, Pass, piece_at}
use Rattle.tl_check.specs.States.{SameSpan}
use Rattle.tl_board.specs.Tally.{SameTally}
use Rattle.tl_desk.specs.Core.{Core, IsDesk, log_of}
use Rattle.tl_desk.specs.Plays.{Plays}
use Rattle.tl_desk.specs.Steps.{Step}
use Rattle.tl_desk.specs.declared.call.Call.{Call}
use Rattle.tl_desk.specs.declared.call.Call.TheVariants as call
use Rattle.tl_desk.specs.declared.play.Reply.{Reply}
use Rattle.tl_desk.specs.declared.play.Step.{Step as AStep}

-- what is known of where a monitor is: its watch, if it is here, or how it is out
abbrev pub without_holding : Place → Place
without_holding (Here held) = Here (record { watch = held.watch; tally = 0; closed_at = 0 })
without_holding (Out away) = Out away

-- The same monitors are here, with the same watches, or out in the same way, and the same have ended and told the same.
pub record HaveSameMonitors (one other : BoxesData) : Type 0 where
  pub ended : one.ended ≡ other.ended
  pub places : (number : ℕ) → option_map without_holding (place_at number one.slots) ≡ option_map without_holding (place_at number other.slots)

-- Both desks have the same log, reports and tickets, each window has the same result and the same live ticket in both, and the same monitors are
-- here, out or ended. Nothing is said of how the opening state of a manager lies in memory, nor of what a monitor holds besides its watch.
pub record AreAlike (one other : Core) : Type 0 where
  pub log : log_of one ≡ log_of other
  pub managers : one.windows.spans.board.pieces ≡ other.windows.spans.board.pieces
  pub monitors : one.windows.board.pieces ≡ other.windows.board.pieces
  pub boxes : HaveSameMonitors one.boxes other.boxes
  pub reports : one.reports ≡ other.reports
  pub tickets : one.tickets ≡ other.tickets

-- The call checks no window: whatever was checked stands in the call.
abbrev pub ChecksNothing : Call → Type 0
ChecksNothing (call.Edit change number) = Unit {0}
ChecksNothing (call.Attach monitor w number) = Unit {0}
ChecksNothing (call.Recheck count) = ⊥
ChecksNothing (call.Publish version) = Unit {0}
ChecksNothing (call.Take ticket piece from) = Unit {0}
ChecksNothing (call.HandIn ticket piece found taken) = Unit {0}
ChecksNothing (call.Abandon ticket piece) = Unit {0}
ChecksNothing (call.Recall ticket) = Unit {0}

-- One call leads desks that have the same to desks that have the same.
abbrev pub CallsKeepDesksAlike : Type 0
CallsKeepDesksAlike = (made : Call) (one other one_after other_after : Core) → ChecksNothing made → AreAlike one other → IsDesk one → IsDesk other → IsDesk one_after → IsDesk other_after
    → Step one made one_after → Step other made other_after → AreAlike one_after other_after

-- ---- what steps and replies fix

-- both none, or two of which it is true
abbrev pub AreBoth : {X : Type 0} → (X → X → Type 0) → Option X → Option X → Type 0
AreBoth same None None = Unit {0}
AreBoth same None (Some y) = ⊥
AreBoth same (Some x) None = ⊥
AreBoth same (Some x) (Some y) = same x y

-- Both results begin and end with states that show the same, and have the same rows.
pub record SamePass {S : Type 0} (same : S → S → Type 0) (one other : Pass S (List Row)) : Type 0 where
  pub entry : same one.entry other.entry
  pub exit : same one.exit other.exit
  pub rows : one.rows ≡ other.rows

-- Both windows have the same live ticket or none, and both have such results or none.
pub record SamePiece {S : Type 0} (same : S → S → Type 0) (one other : Piece S (List Row)) : Type 0 where
  pub live : one.live ≡ other.live
  pub result : AreBoth (SamePass same) one.result other.result

-- The same windows are there, and show the same.
abbrev pub HaveSamePieces : {S : Type 0} → (S → S → Type 0) → Board S (List Row) → Board S (List Row) → Type 0
HaveSamePieces same one other = (key : PieceKey) → AreBoth (SamePiece same) (piece_at key one) (piece_at key other)

-- Both desks show the same: they have the same log, reports and tickets, the same windows with the same live tickets and rows, and the same
-- monitors are here, out or ended. The states that results begin and end with show the same, but may lie differently in memory.
pub record ShowAlike (one other : Core) : Type 0 where
  pub log : log_of one ≡ log_of other
  pub managers : HaveSamePieces SameSpan one.windows.spans.board other.windows.spans.board
  pub monitors : HaveSamePieces SameTally one.windows.board other.windows.board
  pub boxes : HaveSameMonitors one.boxes other.boxes
  pub reports : one.reports ≡ other.reports
  pub tickets : one.tickets ≡ other.tickets

-- One list of steps with one list of replies leads desks that show the same to desks that show the same.
abbrev pub PlaysKeepDesksAlike : Type 0 → Type 0
PlaysKeepDesksAlike M = (watch_of : M → Watch) (steps : List (AStep M)) (replies : List Reply) (one other one_after other_after : Core) → ShowAlike one other
    → Plays watch_of one steps replies one_after → Plays watch_of other steps replies other_after → ShowAlike one_after other_after

-- What a list of steps leaves of a desk follows from its replies.
abbrev pub RepliesFixTheDesk : Type 0 → Type 0
RepliesFixTheDesk M = (watch_of : M → Watch) (steps : List (AStep M)) (replies : List Reply) (old one other : Core) → Plays watch_of old steps replies one → Plays watch_of old steps replies other → ShowAlike one other
