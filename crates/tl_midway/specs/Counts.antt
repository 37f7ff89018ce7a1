-- How many beats of a capture pass a test, that asks about a beat and those before it.
use Rattle.std.specs.Prelude.{ℕ, zero, suc, ◌+◌, Bool, List, [], ◌∷◌, length}
use Rattle.tl_topology.specs.Regions.{Area}
use Rattle.tl_topology.specs.Topology.{Topology}
use Rattle.tl_beats.specs.declared.Placed.{Placed}
use Rattle.tl_definitions.specs.Captures.{manager_beats}
use Rattle.tl_definitions.specs.Known.{Beginning}
use Rattle.tl_definitions.specs.Managers.{manager_at}
use Rattle.tl_definitions.specs.OpenTables.{one_if}
use Rattle.tl_definitions.specs.Positions.{Recorded}
use Rattle.tl_definitions.specs.Rules.{Manager}
use Rattle.tl_edits.specs.Inputs.{InputData}
use Rattle.tl_check.specs.Captured.{areas_at}
use Rattle.tl_midway.specs.Midway.{beginning_of}
use Rattle.tl_midway.specs.declared.midway.Midway.{Midway}

-- A test of a beat of a manager, that stands after others, the newest first.
abbrev pub Test : Type 0
Test = Manager → Beginning → List Placed → Placed → Bool

-- How many of these beats in their order pass, that come after others of the capture.
abbrev pub counted_after : Test → Manager → Beginning → List Placed → List Placed → ℕ
counted_after test m start before [] = 0
counted_after test m start before (p ∷ beats) = one_if (test m start before p) + counted_after test m start (p ∷ before) beats

-- Of all beats of a manager, where its capture begins so.
abbrev pub counted : Test → Midway → Manager → List Placed → ℕ
counted test law m beats = counted_after test m (beginning_of law m) [] beats

-- Of the beats of the manager with this number, with its regions.
abbrev pub manager_counted : Test → Midway → Topology → (ℕ → List Area) → List Recorded → ℕ → ℕ
manager_counted test law topo regions fs manager = counted test law (manager_at topo manager (regions manager)) (manager_beats topo fs manager)

-- Of the beats of the first so many managers.
abbrev pub managers_counted : Test → Midway → Topology → (ℕ → List Area) → List Recorded → ℕ → ℕ
managers_counted test law topo regions fs zero = 0
managers_counted test law topo regions fs (suc count) = managers_counted test law topo regions fs count + manager_counted test law topo regions fs count

-- Of all beats that edits leave.
abbrev pub beats_counted : Test → Midway → InputData → ℕ
beats_counted test law now = managers_counted test law now.topo (areas_at now.regions) now.fragments (length now.topo.managers)
