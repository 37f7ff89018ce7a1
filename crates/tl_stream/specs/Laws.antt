-- What follows for what streams tell.
use Rattle.std.specs.Prelude.{ℕ, ◌≡◌, ◌++◌, ◌<◌, ◌↔◌, List, [], Option, Some, None, length}
use Rattle.std.specs.List.{Contains}
use Rattle.std.specs.List.Sorted.{IsStrictlySortedBy}
use Rattle.tl_topology.specs.Regions.{Area}
use Rattle.tl_topology.specs.Topology.{Topology}
use Rattle.tl_beats.specs.declared.Row.{Row}
use Rattle.tl_definitions.specs.Positions.{Recorded}
use Rattle.tl_definitions.specs.Report.{row_order, IsReport}
use Rattle.tl_check.specs.Captured.{areas_at, captures_with}
use Rattle.tl_capture.specs.Present.{IsPresent}
use Rattle.tl_midway.specs.Report.{IsPrinted}
use Rattle.tl_midway.specs.declared.midway.Midway.{Midway}
use Rattle.tl_stream.specs.Told.{told, untold, whole}

-- What a stream told of a manager, and after it what it tells at its end, are all rows of the manager.
abbrev pub TellingIsWhole : Type 0
TellingIsWhole = (midway : Option Midway) (topo : Topology) (regions : ℕ → List Area) (fs : List Recorded) (manager : ℕ) → IsPresent fs
    → told topo regions fs manager midway ++ untold topo regions fs manager midway ≡ whole topo regions fs manager midway

-- A manager tells the row, at some time.
abbrev pub IsToldBy : Option Midway → Topology → (ℕ → List Area) → List Recorded → Row → Type 0
IsToldBy midway topo regions fs row = (manager : ℕ) × (manager < length topo.managers) × Contains (told topo regions fs manager midway ++ untold topo regions fs manager midway) row

-- The same where the beats are all of a run.
abbrev pub IsTold : Topology → (ℕ → List Area) → List Recorded → Row → Type 0
IsTold topo regions fs row = IsToldBy None topo regions fs row

-- So the rows of all managers, in the order of reports, are the report of all fragments that were accepted, without monitors.
abbrev pub StreamsTellTheReport : Type 0
StreamsTellTheReport = (topo : Topology) (regions : List (List (ℕ × Area))) (fs : List Recorded) (rows : List Row) → IsPresent fs → IsStrictlySortedBy row_order rows
    → ((row : Row) → Contains rows row ↔ IsTold topo (areas_at regions) fs row) → IsReport (captures_with topo fs regions []) rows

-- The rows of all managers are those that are printed of them, where nobody recorded the first beats.
abbrev pub StreamsTellWhatIsPrinted : Type 0
StreamsTellWhatIsPrinted = (law : Midway) (topo : Topology) (regions : ℕ → List Area) (fs : List Recorded) (row : Row) → IsPresent fs
    → IsToldBy (Some law) topo regions fs row ↔ IsPrinted law topo regions fs (length topo.managers) row
