-- The captures of what stands: each manager with its regions and the beats of its links, then each monitor that is attached, with
-- the beats of its link.
use Rattle.std.specs.Prelude.{ℕ, List, [], ◌++◌, map, slice_get}
use Rattle.std.specs.Option.{option_map_or}
use Rattle.tl_topology.specs.Regions.{Area, areas_of}
use Rattle.tl_topology.specs.Topology.{Topology, number_of_name}
use Rattle.tl_beats.specs.Watches.{link_of}
use Rattle.tl_beats.specs.declared.Placed.{Placed}
use Rattle.tl_beats.specs.declared.watch.Watch.{Watch}
use Rattle.tl_definitions.specs.Captures.{captures_of}
use Rattle.tl_definitions.specs.Positions.{Recorded, beats_of}
use Rattle.tl_definitions.specs.Report.{Capture, of_monitor}
use Rattle.tl_edits.specs.Inputs.{InputData, attached}

-- The regions of all managers, by number, each with its own number.
abbrev pub AllRegions : Type 0
AllRegions = List (List (ℕ × Area))

-- The regions of a manager, from a list of those of all managers by number. A manager without an entry has none.
abbrev pub areas_at : AllRegions → ℕ → List Area
areas_at regions manager = option_map_or areas_of (slice_get regions manager) []

-- The beats of the link that a watch names: none where the topology has no such link.
abbrev pub watched_beats : Topology → List Recorded → Watch → List Placed
watched_beats topo fragments w = option_map_or (λ link. beats_of link fragments) (number_of_name topo.links (link_of w)) []

-- One for each watch, with the number of its monitor.
abbrev pub watch_capture : Topology → List Recorded → ℕ × Watch → Capture
watch_capture topo fragments e = of_monitor e.0 e.1 (watched_beats topo fragments e.1)

abbrev pub watch_captures : Topology → List Recorded → List (ℕ × Watch) → List Capture
watch_captures topo fragments watches = map (watch_capture topo fragments) watches

-- The managers first, then the monitors.
abbrev pub captures_with : Topology → List Recorded → List (List (ℕ × Area)) → List (ℕ × Watch) → List Capture
captures_with topo fragments regions watches = captures_of topo (areas_at regions) fragments ++ watch_captures topo fragments watches

-- The captures of what edits leave.
abbrev pub captures_after : InputData → List Capture
captures_after now = captures_with now.topo now.fragments now.regions (attached now.monitors)
