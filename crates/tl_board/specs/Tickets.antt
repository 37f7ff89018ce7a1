-- Windows of managers that go out to be checked, and come back.
use Rattle.std.specs.Prelude.{◌≡◌, ◌⊎◌, None, Some, List}
use Rattle.tl_beats.specs.declared.Row.{Row}
use Rattle.tl_definitions.specs.Captures.{manager_beats}
use Rattle.tl_edits.specs.Inputs.{InputData, regions_at}
use Rattle.tl_pieces.specs.declared.key.PieceKey.{PieceKey}
use Rattle.tl_pieces.specs.Keys.{change}
use Rattle.tl_pieces.specs.Pieces.{Pass, entry_for, with_live, with_pieces, IsWantedAt}
use Rattle.tl_check.specs.States.{SameSpan}
use Rattle.tl_check.specs.declared.state.SpanState.{SpanState}
use Rattle.tl_board.specs.Tasks.{TaskData, IsCurrent}
use Rattle.tl_capture.specs.Windows.{beats_in}
use Rattle.tl_board.specs.Spans.{SpansData, standing}
use Rattle.tl_board.specs.Windows.{with_checked}

-- The task has what stands for the window: its manager with the regions that it has, its beats, and what it is to start from.
pub record IsTaskFor (spans : SpansData) (key : PieceKey) (task : TaskData) : Type 0 where
  pub topo : task.topo ≡ (standing spans).topo
  pub owner : task.owner ≡ key.owner
  pub window : task.window ≡ key.window
  pub regions : task.regions ≡ regions_at key.owner (standing spans).regions
  pub beats : task.beats ≡ beats_in key.window (manager_beats (standing spans).topo (standing spans).fragments key.owner)
  pub entry : entry_for key spans.board ≡ Some task.entry

-- What the task was made of is what stands.
abbrev pub StandsIn : InputData → TaskData → Type 0
StandsIn now task = IsCurrent now.topo (regions_at task.owner now.regions) now.fragments task

-- Where the window is wanted, it gets the result; else the one that it has stays. Its ticket ends. All else stays.
abbrev pub HandsIn : SpansData → PieceKey → Pass SpanState (List Row) → SpansData → Type 0
HandsIn old key result new =
    (IsWantedAt SameSpan old.board key × (new ≡ record old { board = with_pieces old.board (change key (with_checked result) old.board.pieces) }))
    ⊎ ((IsWantedAt SameSpan old.board key → ⊥) × (new ≡ record old { board = with_pieces old.board (change key (with_live None) old.board.pieces) }))
