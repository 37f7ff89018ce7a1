-- What was judged of a manager so far, and what is judged after it.
use Rattle.std.specs.Prelude.{ℕ, ◌≡◌, ◌+◌, ◌↔◌, Option, List, ◌++◌, reverse}
use Rattle.std.specs.List.{Contains}
use Rattle.tl_tables.specs.declared.Rule.{Rule}
use Rattle.tl_topology.specs.Regions.{Area}
use Rattle.tl_topology.specs.Topology.{Topology}
use Rattle.tl_beats.specs.declared.Placed.{Placed}
use Rattle.tl_beats.specs.declared.Row.{Row}
use Rattle.tl_definitions.specs.Captures.{manager_beats}
use Rattle.tl_definitions.specs.Managers.{manager_at}
use Rattle.tl_definitions.specs.Positions.{Recorded}
use Rattle.tl_definitions.specs.Rules.{Manager}
use Rattle.tl_midway.specs.Counts.{counted}
use Rattle.tl_midway.specs.Counted.{HasCounts, Adds, asked_of}
use Rattle.tl_midway.specs.Midway.{beginning_of}
use Rattle.tl_midway.specs.State.{StandsFor, IsKnown}
use Rattle.tl_midway.specs.Walked.{rows_by}
use Rattle.tl_midway.specs.declared.counts.Counts.{Counts}
use Rattle.tl_midway.specs.declared.judged.Judged.{Judged}
use Rattle.tl_midway.specs.declared.midway.Midway.{Midway}

-- The state stands for these beats of the manager, whose capture begins as the law says, and the rows are those that are printed of them.
pub record HasJudged (m : Manager) (law : Midway) (beats : List Placed) (judged : Judged) : Type 0 where
  pub known : IsKnown judged.state
  pub stands : StandsFor m (beginning_of law m) judged.state (reverse beats)
  pub rows : judged.rows.items ≡ rows_by law m beats

-- These beats were judged after whatever beats were judged before.
abbrev pub GoesOver : Topology → List Area → List Placed → Judged → Judged → Type 0
GoesOver topo areas beats old new = (law : Midway) (before : List Placed) → HasJudged (manager_at topo old.manager areas) law before old → HasJudged (manager_at topo old.manager areas) law (before ++ beats) new

-- They were counted too.
abbrev pub CountsOn : Topology → List Area → List Placed → Judged → Counts → Counts → Type 0
CountsOn topo areas beats judged old new = (law : Midway) (before : List Placed) (n : Option Rule → ℕ) → HasJudged (manager_at topo judged.manager areas) law before judged
    → HasCounts old (λ asked. n asked + counted (asked_of asked) law (manager_at topo judged.manager areas) before)
    → HasCounts new (λ asked. n asked + counted (asked_of asked) law (manager_at topo judged.manager areas) (before ++ beats))

-- The rows are those that are printed of the manager with this number, in any order.
abbrev pub AreRowsOf : Midway → Topology → List Area → List Recorded → ℕ → List Row → Type 0
AreRowsOf law topo areas fs manager rows = (row : Row) → Contains rows row ↔ Contains (rows_by law (manager_at topo manager areas) (manager_beats topo fs manager)) row

-- To the counts those of its beats were added.
abbrev pub AddsManager : Topology → List Area → List Recorded → ℕ → Counts → Counts → Type 0
AddsManager topo areas fs manager old new = Adds (manager_at topo manager areas) (manager_beats topo fs manager) old new
