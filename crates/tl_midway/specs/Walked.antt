-- The rows of a manager's capture that begins in the middle of a run.
use Rattle.std.specs.Prelude.{◌≡◌, ◌⊎◌, List, ◌++◌, reverse}
use Rattle.std.specs.List.{Contains}
use Rattle.tl_beats.specs.declared.Placed.{Placed}
use Rattle.tl_beats.specs.declared.Row.{Row}
use Rattle.tl_definitions.specs.Breaks.{Breaks}
use Rattle.tl_definitions.specs.Rules.{Manager}
use Rattle.tl_definitions.specs.Known.{Beginning}
use Rattle.tl_definitions.specs.Lawful.{IsLawful, LeavesAtMost, told_bursts, at_heads}
use Rattle.tl_definitions.specs.MidwayLaws.{DiffersInLeadIn}
use Rattle.tl_definitions.specs.Printed.{printed_after, printed_rows}
use Rattle.tl_midway.specs.Midway.{beginning_of}
use Rattle.tl_midway.specs.State.{StandsFor, IsOf}
use Rattle.tl_midway.specs.declared.midway.Midway.{Midway}
use Rattle.tl_midway.specs.declared.midway.Midway.TheVariants as midway
use Rattle.tl_midway.specs.declared.state.MidwayState.{MidwayState}

-- The rows that are printed of a manager's beats, where its capture begins so.
abbrev pub rows_by : Midway → Manager → List Placed → List Row
rows_by law m beats = printed_rows m (beginning_of law m) beats

-- They are rows of this past followed by the beats.
abbrev pub AreOf : Manager → List Placed → List Placed → List Row → Type 0
AreOf m past beats rows = (row : Row) → Contains rows row → Breaks m (past ++ beats) row

-- They are rows of whatever past the law speaks of, followed by the beats; where bursts are told by their fields, they are, or a
-- beat of a lead-in differs from its head.
abbrev pub AreCertain : Midway → Manager → List Placed → List Row → Type 0
AreCertain midway.Any m beats rows = (past : List Placed) → IsLawful m past → AreOf m past beats rows
AreCertain midway.Bursts m beats rows = (past : List Placed) → IsLawful m past → DiffersInLeadIn m (told_bursts m) past beats ⊎ AreOf m past beats rows
AreCertain midway.Heads m beats rows = (past : List Placed) → IsLawful m past → LeavesAtMost m at_heads past → AreOf m past beats rows

-- A state that stands for beats goes on after others, whose rows these are: it then stands for both.
pub record GoesOn (m : Manager) (old : MidwayState) (beats : List Placed) (new : MidwayState) (rows : List Row) : Type 0 where
  pub is_of : IsOf m new
  pub goes : (start : Beginning) (before : List Placed) → StandsFor m start old (reverse before)
      → StandsFor m start new (reverse (before ++ beats)) × (rows ≡ printed_after m start (reverse before) beats)
