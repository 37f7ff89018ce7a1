-- What a report is the report of, as plain data, and what one edit makes of it.
use Rattle.std.specs.Prelude.{ℕ, ◌≡◌, ◌<◌, Bool, true, List, [], ◌∷◌, map, Option, Some, None, is_some, option_map, if◌then◌else◌, nat_le, slice_index_or, slice_set}
use Rattle.std.specs.Option.{option_map_or}
use Rattle.std.specs.Ordering.{nat_cmp}
use Rattle.std.specs.BTreeMap.{insert_entry, is_at}
use Rattle.std.specs.Map.{lookup}
use Rattle.tl_topology.specs.Regions.{Area, area_at, overlapping, put_area, without_area}
use Rattle.tl_topology.specs.Topology.{Topology, number_of_name}
use Rattle.tl_beats.specs.Watches.{link_of}
use Rattle.tl_beats.specs.declared.watch.Watch.{Watch}
use Rattle.tl_beats.specs.declared.watch.Watch.TheVariants as watch
use Rattle.tl_definitions.specs.Positions.{Recorded}
use Rattle.tl_definitions.specs.Watching.{retuned}
use Rattle.tl_capture.specs.Present.{recorded, numbered, overlapped, put_in, without, cleared}
use Rattle.tl_edits.specs.Edits.{AnEdit, add, replace, withdraw, clear_link, set_region, remove_region, attach, retune, detach}
use Rattle.tl_edits.specs.declared.fault.EditFault.{EditFault}
use Rattle.tl_edits.specs.declared.fault.EditFault.TheVariants as fault

-- The topology; the fragments that stand on its links, in the order of links and ranges; the regions of each manager, by number;
-- each monitor that was ever attached, by number, with its watch, or None once it was detached.
pub record InputData : Type 0 where
  pub topo : Topology
  pub fragments : List Recorded
  pub regions : List (List (ℕ × Area))
  pub monitors : List (ℕ × Option Watch)

-- before the first edit
abbrev pub blank : Topology → InputData
blank topo = record { topo = topo; fragments = []; regions = map (λ manager. []) topo.managers; monitors = [] }

-- the regions of a manager
abbrev pub regions_at : ℕ → List (List (ℕ × Area)) → List (ℕ × Area)
regions_at manager regions = slice_index_or regions manager []

-- Numbers of regions are below 256.
abbrev pub AreNumbered : List (List (ℕ × Area)) → Type 0
AreNumbered regions = (manager number : ℕ) → is_some (area_at number (regions_at manager regions)) ≡ true → number < 256

-- whether a monitor was ever attached, and its watch where it is attached now
abbrev pub was_attached : ℕ → List (ℕ × Option Watch) → Bool
was_attached monitor monitors = is_some (lookup (is_at (nat_cmp monitor)) monitors)

abbrev pub watch_at : ℕ → List (ℕ × Option Watch) → Option Watch
watch_at monitor monitors = option_map_or (λ w. w) (lookup (is_at (nat_cmp monitor)) monitors) None

-- the monitors that are attached now, by number
abbrev pub attached : List (ℕ × Option Watch) → List (ℕ × Watch)
attached [] = []
attached (e ∷ es) = option_map_or (λ w. (e.0, w) ∷ attached es) e.1 (attached es)

-- As many edits as are accepted in all.
abbrev pub most_edits : ℕ
most_edits = 65536

-- the cause that a known link or manager leaves to be found; else that it is unknown
abbrev pub on_link : InputData → List ℕ → (ℕ → Option EditFault) → Option EditFault
on_link now name cause = option_map_or cause (number_of_name now.topo.links name) (Some fault.UnknownLink)

abbrev pub on_manager : InputData → List ℕ → (ℕ → Option EditFault) → Option EditFault
on_manager now name cause = option_map_or cause (number_of_name now.topo.managers name) (Some fault.UnknownManager)

-- an After has no limit to set
abbrev pub limit_refusal : Watch → Option EditFault
limit_refusal (watch.Budget link class limit) = None
limit_refusal (watch.After link first second) = Some fault.WrongKind

-- Why an edit is refused, by what stands: the first cause.
abbrev pub cause : InputData → AnEdit → Option EditFault
cause now (add f) = on_link now f.link (λ link. if is_some (numbered link f.number now.fragments) then Some fault.FragmentExists
    else option_map fault.RangeOverlap (overlapped (recorded link f) now.fragments))
cause now (replace f) = on_link now f.link (λ link. if is_some (numbered link f.number now.fragments)
    then option_map fault.RangeOverlap (overlapped (recorded link f) now.fragments) else Some fault.NoFragment)
cause now (withdraw name number) = on_link now name (λ link. if is_some (numbered link number now.fragments) then None else Some fault.NoFragment)
cause now (clear_link name) = on_link now name (λ link. None)
cause now (set_region name number area) = on_manager now name (λ manager. option_map fault.RegionOverlap (overlapping number area (regions_at manager now.regions)))
cause now (remove_region name number) = on_manager now name (λ manager. if is_some (area_at number (regions_at manager now.regions)) then None else Some fault.NoRegion)
cause now (attach monitor w) = on_link now (link_of w) (λ link. if was_attached monitor now.monitors then Some fault.MonitorExists else None)
cause now (retune monitor limit) = option_map_or limit_refusal (watch_at monitor now.monitors) (Some fault.NoMonitor)
cause now (detach monitor) = if is_some (watch_at monitor now.monitors) then None else Some fault.NoMonitor

-- Why an edit is refused after so many others: by what stands, then where no more edits are accepted.
abbrev pub refusal : ℕ → InputData → AnEdit → Option EditFault
refusal edits now e = option_map_or (λ why. Some why) (cause now e) (if nat_le most_edits edits then Some fault.LogFull else None)

abbrev pub with_fragments : InputData → List ℕ → (ℕ → List Recorded → List Recorded) → InputData
with_fragments now name f = option_map_or (λ link. record now { fragments = f link now.fragments }) (number_of_name now.topo.links name) now

abbrev pub with_regions : InputData → List ℕ → (List (ℕ × Area) → List (ℕ × Area)) → InputData
with_regions now name f = option_map_or (λ manager. record now { regions = slice_set now.regions manager (f (regions_at manager now.regions)) }) (number_of_name now.topo.managers name) now

abbrev pub with_monitor : InputData → ℕ → Option Watch → InputData
with_monitor now monitor w = record now { monitors = insert_entry nat_cmp now.monitors monitor w }

-- What an accepted edit makes of what stands.
abbrev pub changed : InputData → AnEdit → InputData
changed now (add f) = with_fragments now f.link (λ link fs. put_in (recorded link f) fs)
changed now (replace f) = with_fragments now f.link (λ link fs. put_in (recorded link f) (without link f.number fs))
changed now (withdraw name number) = with_fragments now name (λ link fs. without link number fs)
changed now (clear_link name) = with_fragments now name cleared
changed now (set_region name number area) = with_regions now name (put_area number area)
changed now (remove_region name number) = with_regions now name (without_area number)
changed now (attach monitor w) = with_monitor now monitor (Some w)
changed now (retune monitor limit) = with_monitor now monitor (option_map (λ w. retuned w limit) (watch_at monitor now.monitors))
changed now (detach monitor) = with_monitor now monitor None
