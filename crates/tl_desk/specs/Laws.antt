-- What follows for desks.
use Rattle.std.specs.Prelude.{ℕ, ◌≡◌, ◌<◌, ◌↔◌, true, length, None}
use Rattle.tl_definitions.specs.Captures.{manager_beats}
use Rattle.tl_edits.specs.Inputs.{was_attached}
use Rattle.tl_pieces.specs.Pieces.{piece_at, result_of, live_of}
use Rattle.tl_board.specs.Windows.{key_of}
use Rattle.tl_capture.specs.Windows.{HasBeat}
use Rattle.tl_desk.specs.Core.{Core, AllSettled, IsSound, IsDesk, log_of, standing}
use Rattle.tl_desk.specs.Ends.{IsAccountedFor}
use Rattle.tl_desk.specs.Jobs.{IsLive}
use Rattle.tl_desk.specs.Plays.{GivesNothing}
use Rattle.tl_desk.specs.Steps.{Step}
use Rattle.tl_desk.specs.declared.call.Call.{Call}
use Rattle.tl_desk.specs.declared.call.Call.TheVariants as call

-- The call is no edit.
abbrev pub IsNoEdit : Call → Type 0
IsNoEdit (call.Edit change number) = ⊥
IsNoEdit (call.Attach monitor w number) = ⊥
IsNoEdit (call.Recheck count) = Unit {0}
IsNoEdit (call.Publish version) = Unit {0}
IsNoEdit (call.Take ticket piece from) = Unit {0}
IsNoEdit (call.HandIn ticket piece found taken) = Unit {0}
IsNoEdit (call.Abandon ticket piece) = Unit {0}
IsNoEdit (call.Recall ticket) = Unit {0}

-- Where all windows are settled, they are so after each call that is no edit.
abbrev pub OnlyEditsUnsettle : Type 0
OnlyEditsUnsettle = (old new : Core) (made : Call) → Step old made new → IsNoEdit made → AllSettled old → AllSettled new

-- A ticket that is called back is live no more, and every other is live exactly where it was.
abbrev pub RecallsEndOne : Type 0
RecallsEndOne = (old new : Core) (ticket : ℕ) → IsSound old → Step old (call.Recall ticket) new → (other : ℕ) → IsLive new other ↔ (IsLive old other × (other ≡ ticket → ⊥))

-- A monitor that some edit attached is attached now; or it is out, and the edit is known that detached it; or it has ended, and told its
-- last watch and the edit that detached it.
abbrev pub MonitorsAreAccountedFor : Type 0
MonitorsAreAccountedFor = (core : Core) → IsSound core → (number : ℕ) → was_attached number (standing core).monitors ≡ true → IsAccountedFor (log_of core) core.boxes number

-- A window of a manager that has a beat, and neither a result nor a live ticket.
pub record IsBlank (core : Core) (manager window : ℕ) : Type 0 where
  pub manages : manager < length (log_of core).topo.managers
  pub beat : HasBeat (manager_beats (standing core).topo (standing core).fragments manager) window
  pub result : result_of (piece_at (key_of manager window) core.windows.spans.board) ≡ None
  pub live : live_of (piece_at (key_of manager window) core.windows.spans.board) ≡ None

-- Where a desk has such a window, it is not so that there is no window to take.
abbrev pub BlankWindowsAreGiven : Type 0
BlankWindowsAreGiven = (core after : Core) (manager window : ℕ) → IsDesk core → IsBlank core manager window → GivesNothing core after → ⊥
