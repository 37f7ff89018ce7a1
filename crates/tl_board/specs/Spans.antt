-- The windows of all managers after a log of edits, as plain data.
use Rattle.std.specs.Prelude.{ℕ, ◌≡◌, List, [], length, nat_lt, is_some, Option, None, Some}
use Rattle.tl_topology.specs.Regions.{Area}
use Rattle.tl_topology.specs.Topology.{Topology}
use Rattle.tl_beats.specs.declared.Row.{Row}
use Rattle.tl_definitions.specs.Captures.{manager_beats}
use Rattle.tl_definitions.specs.Judging.{Snapshot, snapshot, judging}
use Rattle.tl_definitions.specs.Managers.{manager_at}
use Rattle.tl_definitions.specs.Rules.{Manager}
use Rattle.tl_edits.specs.Inputs.{InputData}
use Rattle.tl_edits.specs.Log.{LogData, inputs_after}
use Rattle.tl_pieces.specs.declared.key.PieceKey.{PieceKey}
use Rattle.tl_pieces.specs.Keys.{change}
use Rattle.tl_pieces.specs.Pieces.{Board, Pass, opening_of, entry_for, with_pieces}
use Rattle.tl_check.specs.Captured.{areas_at}
use Rattle.tl_check.specs.States.{shown, IsOf, StandsFor}
use Rattle.tl_check.specs.declared.state.SpanState.{SpanState}
use Rattle.tl_board.specs.Covers.{Covers, IsOfWindow}
use Rattle.tl_board.specs.Windows.{with_checked}

-- The log of edits, and the pieces: the windows of each manager, who is the owner with its number.
pub record SpansData : Type 0 where
  pub log : LogData
  pub board : Board SpanState (List Row)

-- What stands.
abbrev pub standing : SpansData → InputData
standing spans = inputs_after spans.log.topo spans.log.edits

-- A manager with the regions that it has.
abbrev pub manager_in : InputData → ℕ → Manager
manager_in now number = manager_at now.topo number (areas_at now.regions number)

-- The state is one for a manager, and shows this.
abbrev pub ShowsOf : InputData → ℕ → SpanState → Snapshot → Type 0
ShowsOf now number state snap = IsOf (manager_in now number) state × (shown state ≡ snap)

-- What no beats leave for a manager.
abbrev pub opening_in : InputData → ℕ → Snapshot
opening_in now number = snapshot (manager_in now number) []

-- The result is the pass of a window of a manager by what stands, from its own entry.
abbrev pub IsSpanOf : InputData → ℕ → ℕ → Pass SpanState (List Row) → Type 0
IsSpanOf now number window result = IsOfWindow (ShowsOf now) (λ m. judging (manager_in now m)) (λ m. manager_beats now.topo now.fragments m) number window result

-- The pieces are the windows in which a manager has a beat, and every result that is kept is the pass of its window.
abbrev pub AreSpans : InputData → Board SpanState (List Row) → Type 0
AreSpans now board = Covers (ShowsOf now) (λ m. judging (manager_in now m)) (λ m. manager_beats now.topo now.fragments m) (opening_in now) board

-- The owners are the managers, each with a state that stands for no beats, whatever the regions are; so far those below a number.
pub record HasManagers (topo : Topology) (count : ℕ) (board : Board SpanState (List Row)) : Type 0 where
  pub owners : (number : ℕ) → is_some (opening_of number board.openings) ≡ nat_lt number count
  pub openings : (number : ℕ) (state : SpanState) → opening_of number board.openings ≡ Some state → (areas : List Area) → StandsFor (manager_at topo number areas) state []

pub record IsSound (spans : SpansData) : Type 0 where
  pub managers : HasManagers spans.log.topo (length spans.log.topo.managers) spans.board
  pub covered : AreSpans (standing spans) spans.board

-- A window gets its result: the pass of its present beats from what it is to start from. Its ticket ends. All else stays.
pub record ChecksWindow (old : SpansData) (key : PieceKey) (new : SpansData) : Type 0 where
  pub result : Pass SpanState (List Row)
  pub of_window : IsSpanOf (standing old) key.owner key.window result
  pub entry : entry_for key old.board ≡ Some result.entry
  pub rest : new ≡ record old { board = with_pieces old.board (change key (with_checked result) old.board.pieces) }

abbrev pub ChecksFirst : SpansData → Option PieceKey → SpansData → Type 0
ChecksFirst old None new = new ≡ old
ChecksFirst old (Some key) new = ChecksWindow old key new
