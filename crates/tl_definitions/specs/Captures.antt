-- What the fragments of a topology's links are the captures of.
use Rattle.std.specs.Prelude.{ℕ, ◌+◌, List, [], ◌∷◌}
use Rattle.tl_topology.specs.Regions.{Area}
use Rattle.tl_topology.specs.Topology.{Topology}
use Rattle.tl_beats.specs.declared.Placed.{Placed}
use Rattle.tl_definitions.specs.Positions.{Recorded, beats_of_all, clients_of}
use Rattle.tl_definitions.specs.Managers.{declared_links, manager_at}
use Rattle.tl_definitions.specs.Report.{Capture, of_manager}

-- The beats of a manager: those of its links, in the order of positions.
abbrev pub manager_beats : Topology → List Recorded → ℕ → List Placed
manager_beats topo fragments manager = beats_of_all (clients_of manager (declared_links topo)) fragments

-- One for each manager, with its regions and its beats; from a number on.
abbrev pub captures_from : {X : Type 0} → Topology → (ℕ → List Area) → List Recorded → ℕ → List X → List Capture
captures_from topo regions fragments number [] = []
captures_from topo regions fragments number (manager ∷ managers) =
    of_manager (manager_at topo number (regions number)) (manager_beats topo fragments number) ∷ captures_from topo regions fragments (number + 1) managers

abbrev pub captures_of : Topology → (ℕ → List Area) → List Recorded → List Capture
captures_of topo regions fragments = captures_from topo regions fragments 0 topo.managers

-- No manager has regions.
abbrev pub no_regions : ℕ → List Area
no_regions manager = []
