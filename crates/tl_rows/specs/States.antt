-- What the state of a manager stands for.
use Rattle.std.specs.Prelude.{ℕ, ◌≡◌, List, [], Option, Some, None, length, slice_get}
use Rattle.std.specs.Option.{option_map_or}
use Rattle.tl_topology.specs.Topology.{Topology}
use Rattle.tl_beats.specs.declared.Placed.{Placed}
use Rattle.tl_definitions.specs.Managers.{declared_links}
use Rattle.tl_definitions.specs.Messages.{Links}
use Rattle.tl_definitions.specs.Positions.{links_of}
use Rattle.tl_definitions.specs.Rules.{Manager}
use Rattle.tl_rows.specs.declared.link.LinkOrigins.{LinkOrigins}
use Rattle.tl_rows.specs.declared.manager.ManagerOrigins.{ManagerOrigins}
use Rattle.tl_rows.specs.declared.manager.Sought.{Sought}
use Rattle.tl_rows.specs.declared.manager.Sought.TheVariants as sought
use Rattle.tl_rows.specs.declared.origin.Origin.{Origin}
use Rattle.tl_rows.specs.Origins.{origins_on}
use Rattle.tl_rows.specs.Reasons.{Trail, trail_of, rival_at}
use Rattle.tl_rows.specs.Openers as openers
use Rattle.tl_rows.specs.Links.{IsAt}

-- A link that the topology lacks has no messages.
abbrev pub IsLink : ℕ → Links → ℕ → Option LinkOrigins → List Placed → Type 0
IsLink exponent links link None before = origins_on links link before ≡ []
IsLink exponent links link (Some state) before = IsAt exponent links link state before

-- What a link leaves for reasons, as the state shows it.
abbrev pub trail_at : ManagerOrigins → ℕ → Trail
trail_at state link = option_map_or (λ (s : LinkOrigins). openers.shown state.exponent s.openers) (slice_get state.links.items link) (trail_of state.exponent [])

-- The manager of a topology with these clients and blocks; its regions are no part of a reason.
abbrev pub manager_with : Topology → ℕ → List ℕ → Manager
manager_with topo exponent clients = record { links = links_of (declared_links topo); clients = clients; exponent = exponent; regions = [] }

-- The state shows what these beats of the manager leave, the newest first.
pub record StandsFor (m : Manager) (state : ManagerOrigins) (before : List Placed) : Type 0 where
  pub exponent : state.exponent ≡ m.exponent
  pub each : (link : ℕ) → IsLink m.exponent m.links link (slice_get state.links.items link) before

-- This holds of the manager and of whatever beats of it the state shows.
abbrev pub OnBeats : Manager → ManagerOrigins → (Manager → List Placed → Type 0) → Type 0
OnBeats m state Holds = (before : List Placed) → StandsFor m state before → Holds m before

-- how many links the topology has that a state is of
abbrev pub links_in : ManagerOrigins → ℕ
links_in state = length state.links.items

-- A link without beats.
abbrev pub IsOpening : LinkOrigins → Type 0
IsOpening state = (exponent : ℕ) (links : Links) (link : ℕ) → IsAt exponent links link state []

-- What is sought at one client.
abbrev pub sought_at : ℕ → (ℕ → Trail) → Sought → ℕ → Option Origin
sought_at exponent trails (sought.Rival link block set) client = rival_at exponent trails link block set client
sought_at exponent trails (sought.Probe block) client = (trails client).probe block
sought_at exponent trails (sought.Grant block) client = (trails client).grant block
