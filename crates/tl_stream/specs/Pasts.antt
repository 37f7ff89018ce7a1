-- What the beats of a manager leave for those that come, and the rows of these: of a whole run, or where nobody recorded its first beats.
use Rattle.std.specs.Prelude.{◌≡◌, List, [], ◌++◌, Option, Some, None, reverse}
use Rattle.tl_beats.specs.declared.Placed.{Placed}
use Rattle.tl_beats.specs.declared.Row.{Row}
use Rattle.tl_definitions.specs.Breaks as breaks
use Rattle.tl_definitions.specs.Printed.{printed_after}
use Rattle.tl_definitions.specs.Rules.{Manager}
use Rattle.tl_check.specs.States as whole
use Rattle.tl_midway.specs.Midway.{beginning_of}
use Rattle.tl_midway.specs.State as middle
use Rattle.tl_midway.specs.declared.midway.Midway.{Midway}
use Rattle.tl_stream.specs.declared.past.Past.{Past}
use Rattle.tl_stream.specs.declared.past.Past.TheVariants as past

-- The rows of a manager's beats in their order that come after others: all, or those that stand whatever came before the first.
abbrev pub rows_after : Option Midway → Manager → List Placed → List Placed → List Row
rows_after None m before beats = breaks.rows_after m before beats
rows_after (Some law) m before beats = printed_after m (beginning_of law m) before beats

abbrev pub rows_in : Option Midway → Manager → List Placed → List Row
rows_in midway m beats = rows_after midway m [] beats

-- The state is one of the manager.
abbrev pub IsOf : Manager → Past → Type 0
IsOf m (past.Whole state) = whole.IsOf m state
IsOf m (past.Middle state) = middle.IsOf m state

-- It stands for these beats of the manager, the newest first.
abbrev pub StandsFor : Option Midway → Manager → Past → List Placed → Type 0
StandsFor None m (past.Whole state) before = whole.StandsFor m state before
StandsFor None m (past.Middle state) before = ⊥
StandsFor (Some law) m (past.Whole state) before = ⊥
StandsFor (Some law) m (past.Middle state) before = middle.IsKnown state × middle.StandsFor m (beginning_of law m) state before

-- A state that stands for beats goes on after others, whose rows these are: it then stands for both.
pub record GoesOn (m : Manager) (old : Past) (beats : List Placed) (new : Past) (rows : List Row) : Type 0 where
  pub is_of : IsOf m new
  pub goes : (midway : Option Midway) (before : List Placed) → StandsFor midway m old (reverse before)
      → StandsFor midway m new (reverse (before ++ beats)) × (rows ≡ rows_after midway m (reverse before) beats)
