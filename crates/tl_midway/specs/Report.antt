-- The report of all managers of a capture that begins in the middle of a run.
use Rattle.std.specs.Prelude.{ℕ, ◌<◌, ◌↔◌, ◌⊎◌, List, length}
use Rattle.std.specs.List.{Contains}
use Rattle.std.specs.List.Sorted.{IsStrictlySortedBy}
use Rattle.tl_topology.specs.Regions.{Area}
use Rattle.tl_topology.specs.Topology.{Topology}
use Rattle.tl_beats.specs.declared.Row.{Row}
use Rattle.tl_definitions.specs.Captures.{manager_beats}
use Rattle.tl_definitions.specs.Managers.{manager_at}
use Rattle.tl_definitions.specs.Positions.{Recorded}
use Rattle.tl_definitions.specs.Report.{key_order, FindsIn}
use Rattle.tl_edits.specs.Inputs.{InputData, attached}
use Rattle.tl_check.specs.Captured.{areas_at, watch_captures}
use Rattle.tl_midway.specs.Walked.{rows_by}
use Rattle.tl_midway.specs.declared.midway.Midway.{Midway}

-- The rows that are printed of the manager with this number, with its regions.
abbrev pub manager_rows : Midway → Topology → (ℕ → List Area) → List Recorded → ℕ → List Row
manager_rows law topo regions fs manager = rows_by law (manager_at topo manager (regions manager)) (manager_beats topo fs manager)

-- The row is printed of one of the first so many managers.
abbrev pub IsPrinted : Midway → Topology → (ℕ → List Area) → List Recorded → ℕ → Row → Type 0
IsPrinted law topo regions fs count row = (manager : ℕ) × (manager < count) × Contains (manager_rows law topo regions fs manager) row

-- The rows are those that are printed of these managers, in any order and any number of times.
abbrev pub ArePrinted : Midway → Topology → (ℕ → List Area) → List Recorded → ℕ → List Row → Type 0
ArePrinted law topo regions fs count rows = (row : Row) → Contains rows row ↔ IsPrinted law topo regions fs count row

-- The row is printed of a manager, or flagged by a monitor that is attached. More beats before never take a flag away.
abbrev pub StandsIn : Midway → InputData → Row → Type 0
StandsIn law now row = IsPrinted law now.topo (areas_at now.regions) now.fragments (length now.topo.managers) row ⊎ FindsIn (watch_captures now.topo now.fragments (attached now.monitors)) row

-- The rows rise strictly by their keys, and are those that are printed of all managers, and those of all monitors.
pub record IsMidwayReport (law : Midway) (now : InputData) (rows : List Row) : Type 0 where
  pub rises : IsStrictlySortedBy key_order rows
  pub members : (row : Row) → Contains rows row ↔ StandsIn law now row
