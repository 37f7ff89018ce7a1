-- What the tickets of a desk are out for.
use Rattle.std.specs.Prelude.{ℕ, ◌≡◌, ◌≤◌, List, Option, Some, length, take}
use Rattle.std.specs.Option.{option_map}
use Rattle.tl_beats.specs.declared.Row.{Row}
use Rattle.tl_monitor.specs.Boxes.{BoxesData, away_at}
use Rattle.tl_monitor.specs.declared.away.Away.{Away}
use Rattle.tl_definitions.specs.Captures.{manager_beats}
use Rattle.tl_edits.specs.Inputs.{InputData, watch_at}
use Rattle.tl_edits.specs.Log.{LogData, inputs_after}
use Rattle.tl_pieces.specs.declared.key.PieceKey.{PieceKey}
use Rattle.tl_pieces.specs.Pieces.{Board, piece_at, live_of}
use Rattle.tl_check.specs.Captured.{areas_at}
use Rattle.tl_check.specs.declared.state.SpanState.{SpanState}
use Rattle.tl_desk.specs.declared.piece.Piece.{Piece}
use Rattle.tl_desk.specs.declared.piece.Piece.TheVariants as piece
use Rattle.tl_desk.specs.declared.tickets.Taken.{Taken}
use Rattle.tl_desk.specs.TicketData.{TicketsData, AreTickets, IsOutFor, taken_at}
use Rattle.tl_board.specs.declared.tally.Tally.{Tally}
use Rattle.tl_board.specs.Watches.{beats_for}
use Rattle.tl_capture.specs.Windows.{beats_in}

-- what the first so many edits leave
abbrev pub left_by : LogData → ℕ → InputData
left_by log edits = inputs_after log.topo (take edits log.edits)

-- the window of a manager that a key names, and that of a monitor
abbrev pub window_of : PieceKey → Piece
window_of key = piece.Manager key.owner key.window

abbrev pub watch_window_of : PieceKey → Piece
watch_window_of key = piece.Monitor key.owner key.window

-- Since the first so many edits the beats of the window and the regions of its manager are the same.
pub record IsSince (log : LogData) (owner window edits : ℕ) : Type 0 where
  pub within : edits ≤ length log.edits
  pub regions : areas_at (inputs_after log.topo log.edits).regions owner ≡ areas_at (left_by log edits).regions owner
  pub beats : beats_in window (manager_beats (inputs_after log.topo log.edits).topo (inputs_after log.topo log.edits).fragments owner)
      ≡ beats_in window (manager_beats (left_by log edits).topo (left_by log edits).fragments owner)

-- Since the first so many edits the watch of the number and the beats of the window, on the link that the watch names, are the same.
pub record IsSinceWatch (log : LogData) (number window edits : ℕ) : Type 0 where
  pub within : edits ≤ length log.edits
  pub watch : watch_at number (inputs_after log.topo log.edits).monitors ≡ watch_at number (left_by log edits).monitors
  pub beats : beats_in window (beats_for (inputs_after log.topo log.edits) number) ≡ beats_in window (beats_for (left_by log edits) number)

-- The ticket is out for the window of a manager, which is since then what it was.
pub record IsLiveFor (log : LogData) (out : List (ℕ × Taken)) (key : PieceKey) (ticket : ℕ) : Type 0 where
  pub taken : Taken
  pub is : taken_at ticket out ≡ Some taken
  pub window : taken.piece ≡ window_of key
  pub since : IsSince log key.owner key.window taken.edits

-- The ticket is out for the window of a monitor, which is since then what it was.
pub record IsLiveForWatch (log : LogData) (out : List (ℕ × Taken)) (key : PieceKey) (ticket : ℕ) : Type 0 where
  pub taken : Taken
  pub is : taken_at ticket out ≡ Some taken
  pub window : taken.piece ≡ watch_window_of key
  pub since : IsSinceWatch log key.owner key.window taken.edits

-- the ticket under which the monitor of a number is out
abbrev pub ticket_away : ℕ → BoxesData → Option ℕ
ticket_away number boxes = option_map (λ (a : Away). a.ticket) (away_at number boxes.slots)

-- Each live ticket is out for its window, which is since then what it was. A monitor that is out is so under a ticket that is out for one
-- of its windows, and each ticket that is out for a window of a monitor is the one under which that monitor is out.
pub record HoldsTickets (log : LogData) (managers : Board SpanState (List Row)) (monitors : Board Tally (List Row)) (boxes : BoxesData) (tickets : TicketsData) : Type 0 where
  pub are : AreTickets tickets
  pub live : (key : PieceKey) (ticket : ℕ) → live_of (piece_at key managers) ≡ Some ticket → IsLiveFor log tickets.out key ticket
  pub watched : (key : PieceKey) (ticket : ℕ) → live_of (piece_at key monitors) ≡ Some ticket → IsLiveForWatch log tickets.out key ticket
  pub away : (number ticket : ℕ) → ticket_away number boxes ≡ Some ticket → (window : ℕ) × IsOutFor ticket (piece.Monitor number window) tickets.out
  pub held : (number window ticket : ℕ) → IsOutFor ticket (piece.Monitor number window) tickets.out → ticket_away number boxes ≡ Some ticket
