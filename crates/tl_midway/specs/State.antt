-- What the state of a manager stands for.
use Rattle.std.specs.Prelude.{ℕ, ◌≡◌, List, []}
use Rattle.tl_topology.specs.Regions.{Area}
use Rattle.tl_topology.specs.declared.LinkDecl.{LinkDecl}
use Rattle.tl_beats.specs.declared.Placed.{Placed}
use Rattle.tl_definitions.specs.Rules.{Manager}
use Rattle.tl_definitions.specs.Known.{Beginning}
use Rattle.tl_midway.specs.ManagerReadings as manager_readings
use Rattle.tl_midway.specs.ManagerReadings.{HasPlace}
use Rattle.tl_midway.specs.KnownPasts as known_pasts
use Rattle.tl_midway.specs.Midway.{beginning_of}
use Rattle.tl_midway.specs.declared.midway.Midway.{Midway}
use Rattle.tl_midway.specs.declared.state.MidwayState.{MidwayState}

-- The state shows what is known after these beats of the manager: the readings of each channel's next beat, and each link's past.
pub record StandsFor (m : Manager) (start : Beginning) (state : MidwayState) (before : List Placed) : Type 0 where
  pub readings : manager_readings.StandsFor m start state.readings before
  pub pasts : known_pasts.StandsFor m start state.pasts before

-- The manager has this link under this number, and these regions.
pub record Serves (m : Manager) (link : ℕ) (decl : LinkDecl) (areas : List Area) : Type 0 where
  pub declared : m.links link ≡ decl
  pub regions : m.regions ≡ areas

-- The link is one of the manager's.
pub record HasLink (state : MidwayState) (link : ℕ) : Type 0 where
  pub readings : HasPlace (manager_readings.numbers_of state.readings) link
  pub pasts : HasPlace (known_pasts.numbers_of state.pasts) link

-- The state has the readings of each link's next beats, whatever they are.
abbrev pub IsKnown : MidwayState → Type 0
IsKnown state = manager_readings.AreKnown state.readings

-- This holds of each manager, beginning and beats before that the state stands for, where the manager serves the link.
abbrev pub WhereServed : MidwayState → ℕ → LinkDecl → List Area → (Manager → Beginning → List Placed → Type 0) → Type 0
WhereServed state number decl areas Holds = (m : Manager) (start : Beginning) (before : List Placed) → StandsFor m start state before → Serves m number decl areas → Holds m start before

-- The state stands for no beats of the manager, whose capture begins as the law says.
abbrev pub IsNew : Midway → Manager → MidwayState → Type 0
IsNew law m state = StandsFor m (beginning_of law m) state []

-- The state is one of the manager: it stands for some of its beats, whatever the beginning.
pub record IsOf (m : Manager) (state : MidwayState) : Type 0 where
  pub known : IsKnown state
  pub start : Beginning
  pub before : List Placed
  pub stands : StandsFor m start state before
