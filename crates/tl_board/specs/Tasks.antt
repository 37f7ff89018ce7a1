-- Windows of managers that are to be checked, as plain data, and their results.
use Rattle.std.specs.Prelude.{ℕ, ◌≡◌, ◌<◌, List, length, Option, option_map, slice_get, is_some, true}
use Rattle.tl_topology.specs.Regions.{Area, area_at, areas_of}
use Rattle.tl_topology.specs.Topology.{Topology}
use Rattle.tl_beats.specs.declared.Placed.{Placed}
use Rattle.tl_beats.specs.declared.Row.{Row}
use Rattle.tl_definitions.specs.Captures.{manager_beats}
use Rattle.tl_definitions.specs.Judging.{Snapshot, judging}
use Rattle.tl_definitions.specs.Managers.{declared_links, manager_at}
use Rattle.tl_definitions.specs.Passes.{IsPass}
use Rattle.tl_definitions.specs.Positions.{Recorded, clients_of}
use Rattle.tl_definitions.specs.Rules.{Manager}
use Rattle.tl_pieces.specs.Pieces.{Pass}
use Rattle.tl_check.specs.States.{shown, IsOf}
use Rattle.tl_check.specs.declared.state.SpanState.{SpanState}
use Rattle.tl_capture.specs.Windows.{AreBeatsOf, beats_in}

-- A window of a manager with all that its check asks: the topology, the manager's number and regions, its beats of the window, and
-- the state that they are judged from.
pub record TaskData : Type 0 where
  pub topo : Topology
  pub owner : ℕ
  pub window : ℕ
  pub regions : List (ℕ × Area)
  pub beats : List Placed
  pub entry : SpanState

abbrev pub manager_of : TaskData → Manager
manager_of task = manager_at task.topo task.owner (areas_of task.regions)

-- The window of a manager with these regions, the beats of these fragments that lie in it, and this entry.
abbrev pub task_for : Topology → ℕ → List (ℕ × Area) → List Recorded → ℕ → SpanState → TaskData
task_for topo manager regions fragments window entry = record {
  topo = topo;
  owner = manager;
  window = window;
  regions = regions;
  beats = beats_in window (manager_beats topo fragments manager);
  entry = entry;
}

-- The numbers of regions are below 256.
abbrev pub HasNumbers : List (ℕ × Area) → Type 0
HasNumbers regions = (number : ℕ) → is_some (area_at number regions) ≡ true → number < 256

-- What each task keeps.
pub record IsTask (task : TaskData) : Type 0 where
  pub manages : task.owner < length task.topo.managers
  pub beats : AreBeatsOf (clients_of task.owner (declared_links task.topo)) task.beats
  pub entry : IsOf (manager_of task) task.entry
  pub numbers : HasNumbers task.regions

-- The result is the pass of the task's beats, from its own entry.
pub record IsPassOf (task : TaskData) (result : Pass SpanState (List Row)) : Type 0 where
  pub entry : Snapshot
  pub exit : Snapshot
  pub begins : IsOf (manager_of task) result.entry × (shown result.entry ≡ entry)
  pub ends : IsOf (manager_of task) result.exit × (shown result.exit ≡ exit)
  pub pass : IsPass (judging (manager_of task)) (record { entry = entry; beats = task.beats; exit = exit; rows = result.rows })

-- The exponent of a manager's block.
abbrev pub block_of : Topology → ℕ → Option ℕ
block_of topo manager = option_map (λ p. p.1) (slice_get topo.managers manager)

-- What the task was made of stands: the links and the block, the regions, and the beats of its window.
pub record IsCurrent (topo : Topology) (areas : List (ℕ × Area)) (fragments : List Recorded) (task : TaskData) : Type 0 where
  pub links : declared_links task.topo ≡ declared_links topo
  pub block : block_of task.topo task.owner ≡ block_of topo task.owner
  pub regions : task.regions ≡ areas
  pub beats : task.beats ≡ beats_in task.window (manager_beats topo fragments task.owner)
