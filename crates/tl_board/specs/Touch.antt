-- What an edit touches.
use Rattle.std.specs.Prelude.{ℕ, ◌≡◌, ◌⊎◌, List, Some}
use Rattle.std.specs.List.{Contains}
use Rattle.tl_topology.specs.Topology.{Topology, number_of_name}
use Rattle.tl_definitions.specs.Managers.{declared_links}
use Rattle.tl_definitions.specs.Positions.{Recorded, placed_beats, beats_of, clients_of}
use Rattle.tl_capture.specs.Present.{recorded, numbered}
use Rattle.tl_capture.specs.Windows.{HasBeat}
use Rattle.tl_edits.specs.Edits.{AnEdit, add, replace, withdraw, clear_link, set_region, remove_region, attach, retune, detach}
use Rattle.tl_edits.specs.Inputs.{InputData}

-- The name is that of one of the manager's links, and this holds of the link.
abbrev pub OnLink : Topology → ℕ → List ℕ → (ℕ → Type 0) → Type 0
OnLink topo manager name P = (link : ℕ) × (number_of_name topo.links name ≡ Some link) × Contains (clients_of manager (declared_links topo)) link × P link

-- The fragment of this number that stands on the link has a beat in the window.
abbrev pub StandsIn : List Recorded → ℕ → ℕ → ℕ → Type 0
StandsIn fragments number window link = (f : Recorded) × (numbered link number fragments ≡ Some f) × HasBeat (placed_beats f) window

-- The edit sets or removes a region of the manager.
abbrev pub TouchesRegions : InputData → AnEdit → ℕ → Type 0
TouchesRegions now (set_region name number area) manager = number_of_name now.topo.managers name ≡ Some manager
TouchesRegions now (remove_region name number) manager = number_of_name now.topo.managers name ≡ Some manager
TouchesRegions now (add f) manager = ⊥
TouchesRegions now (replace f) manager = ⊥
TouchesRegions now (withdraw name number) manager = ⊥
TouchesRegions now (clear_link name) manager = ⊥
TouchesRegions now (attach monitor w) manager = ⊥
TouchesRegions now (retune monitor limit) manager = ⊥
TouchesRegions now (detach monitor) manager = ⊥

-- The window of the manager is touched by the edit, before which this stands: by a fragment that comes, where it has a beat
-- there; by one that is replaced, where it or its successor has; by one that goes, where it has; by a link that is cleared, where
-- the link has; by a region, always. No edit of a monitor touches a window of a manager.
abbrev pub Touches : InputData → AnEdit → ℕ → ℕ → Type 0
Touches now (add f) manager window = OnLink now.topo manager f.link (λ link. HasBeat (placed_beats (recorded link f)) window)
Touches now (replace f) manager window = OnLink now.topo manager f.link (λ link. HasBeat (placed_beats (recorded link f)) window ⊎ StandsIn now.fragments f.number window link)
Touches now (withdraw name number) manager window = OnLink now.topo manager name (StandsIn now.fragments number window)
Touches now (clear_link name) manager window = OnLink now.topo manager name (λ link. HasBeat (beats_of link now.fragments) window)
Touches now (set_region name number area) manager window = TouchesRegions now (set_region name number area) manager
Touches now (remove_region name number) manager window = TouchesRegions now (remove_region name number) manager
Touches now (attach monitor w) manager window = ⊥
Touches now (retune monitor limit) manager window = ⊥
Touches now (detach monitor) manager window = ⊥

-- The same of a link by its number: the window of the link is touched, whoever reads it. Regions and monitors touch none.
abbrev pub TouchesLink : InputData → AnEdit → ℕ → ℕ → Type 0
TouchesLink now (add f) link window = (number_of_name now.topo.links f.link ≡ Some link) × HasBeat (placed_beats (recorded link f)) window
TouchesLink now (replace f) link window = (number_of_name now.topo.links f.link ≡ Some link) × (HasBeat (placed_beats (recorded link f)) window ⊎ StandsIn now.fragments f.number window link)
TouchesLink now (withdraw name number) link window = (number_of_name now.topo.links name ≡ Some link) × StandsIn now.fragments number window link
TouchesLink now (clear_link name) link window = (number_of_name now.topo.links name ≡ Some link) × HasBeat (beats_of link now.fragments) window
TouchesLink now (set_region name number area) link window = ⊥
TouchesLink now (remove_region name number) link window = ⊥
TouchesLink now (attach monitor w) link window = ⊥
TouchesLink now (retune monitor limit) link window = ⊥
TouchesLink now (detach monitor) link window = ⊥
