-- What a stream has told of the fragments that it accepted so far, and what it tells at its end.
use Rattle.std.specs.Prelude.{ℕ, zero, suc, not, List, [], ◌++◌, Option, filter, reverse}
use Rattle.tl_topology.specs.Regions.{Area}
use Rattle.tl_topology.specs.Topology.{Topology}
use Rattle.tl_beats.specs.declared.Placed.{Placed}
use Rattle.tl_beats.specs.declared.Row.{Row}
use Rattle.tl_definitions.specs.Captures.{manager_beats}
use Rattle.tl_definitions.specs.Managers.{declared_links, manager_at}
use Rattle.tl_definitions.specs.Positions.{Recorded, clients_of}
use Rattle.tl_definitions.specs.Rules.{Manager}
use Rattle.tl_midway.specs.declared.midway.Midway.{Midway}
use Rattle.tl_stream.specs.Fronts.{is_complete}
use Rattle.tl_stream.specs.Pasts.{rows_in, rows_after}

module _ (topo : Topology) (regions : ℕ → List Area) (fs : List Recorded) (manager : ℕ) where
  abbrev pub served : Manager
  served = manager_at topo manager (regions manager)

  -- the beats of a manager whose cycle is complete: each of its links has a fragment that ends with it or after it
  abbrev pub complete_beats : List Placed
  complete_beats = filter (λ p. is_complete (clients_of manager (declared_links topo)) fs p.beat.cycle) (manager_beats topo fs manager)

  -- the others
  abbrev pub open_beats : List Placed
  open_beats = filter (λ p. not (is_complete (clients_of manager (declared_links topo)) fs p.beat.cycle)) (manager_beats topo fs manager)

  module _ (midway : Option Midway) where
    -- the rows of the complete beats, in the order of positions
    abbrev pub told : List Row
    told = rows_in midway served complete_beats

    -- the rows of the others, which come after them
    abbrev pub untold : List Row
    untold = rows_after midway served (reverse complete_beats) open_beats

    -- all rows of the manager
    abbrev pub whole : List Row
    whole = rows_in midway served (manager_beats topo fs manager)

-- The untold rows of the first so many managers, one manager after the other.
abbrev pub untold_of : Option Midway → Topology → (ℕ → List Area) → List Recorded → ℕ → List Row
untold_of midway topo regions fs zero = []
untold_of midway topo regions fs (suc count) = untold_of midway topo regions fs count ++ untold topo regions fs count midway
