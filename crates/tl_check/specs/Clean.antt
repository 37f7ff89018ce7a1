-- What a report without rows of the rules on bounds means.
use Rattle.std.specs.Prelude.{ℕ, ◌≡◌, ◌<◌, List, [], ◌++◌, filter, length, reverse}
use Rattle.tl_topology.specs.Regions.{Area}
use Rattle.tl_topology.specs.Topology.{Topology}
use Rattle.tl_beats.specs.declared.Placed.{Placed}
use Rattle.tl_beats.specs.declared.Row.{Row}
use Rattle.tl_beats.specs.declared.watch.Watch.{Watch}
use Rattle.tl_definitions.specs.Captures.{manager_beats}
use Rattle.tl_definitions.specs.Coherence.{OneWriter, exceeds}
use Rattle.tl_definitions.specs.Managers.{manager_at}
use Rattle.tl_definitions.specs.Positions.{Recorded}
use Rattle.tl_definitions.specs.Report.{IsReport}
use Rattle.tl_check.specs.Captured.{areas_at, captures_with}

-- Where a report has no row of P1, P2 or M1, at every position and for every block, while one client may hold the block to write,
-- no other client of its manager may hold it at all, whatever the regions are and whatever is watched.
abbrev pub GuardedReportsAreCoherent : Type 0
GuardedReportsAreCoherent = (topo : Topology) (fragments : List Recorded) (regions : List (List (ℕ × Area))) (watches : List (ℕ × Watch)) (rows : List Row)
    → IsReport (captures_with topo fragments regions watches) rows → filter exceeds rows ≡ []
    → (manager : ℕ) → manager < length topo.managers
    → (earlier later : List Placed) → manager_beats topo fragments manager ≡ earlier ++ later → OneWriter (manager_at topo manager (areas_at regions manager)) (reverse earlier)
