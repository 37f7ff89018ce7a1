-- A stream as plain data, and the fragments that it accepted.
use Rattle.std.specs.Prelude.{ℕ, ◌≡◌, ◌++◌, ◌<◌, ◌≤◌, ◌^◌, List, Option, Some, None, length, slice_get, nat_lt}
use Rattle.std.specs.List.{Contains}
use Rattle.tl_topology.specs.Regions.{Area}
use Rattle.tl_topology.specs.Topology.{Topology, number_of_name}
use Rattle.tl_topology.specs.declared.LinkDecl.{LinkDecl}
use Rattle.tl_beats.specs.Fragments.{Frag}
use Rattle.tl_beats.specs.declared.Row.{Row}
use Rattle.tl_definitions.specs.Managers.{declared_links}
use Rattle.tl_definitions.specs.Positions.{Recorded, clients_of}
use Rattle.tl_check.specs.Captured.{areas_at}
use Rattle.tl_capture.specs.Present.{recorded, put_in, IsPresent}
use Rattle.tl_midway.specs.declared.midway.Midway.{Midway}
use Rattle.tl_stream.specs.Courses.{AreCourses}
use Rattle.tl_stream.specs.Fronts.{front_at, past, is_complete, IsFrontOf}
use Rattle.tl_stream.specs.Told.{told}
use Rattle.tl_stream.specs.declared.course.Course.{Course}
use Rattle.tl_stream.specs.declared.fault.StreamFault.{StreamFault}
use Rattle.tl_stream.specs.declared.fault.StreamFault.TheVariants as fault
use Rattle.tl_stream.specs.declared.front.Front.{Front}

pub record StreamData : Type 0 where
  pub topo : Topology
  pub regions : List (List (ℕ × Area))
  pub midway : Option Midway
  pub fronts : List (Option Front)
  pub waiting : List Recorded
  pub courses : List Course

-- the regions of its managers, by number
abbrev pub areas_in : StreamData → ℕ → List Area
areas_in s = areas_at s.regions

-- the course of a manager, if the stream has it
abbrev pub course_at : StreamData → ℕ → Option Course
course_at s manager = slice_get s.courses manager

-- The stream has accepted exactly these fragments.
pub record HasAccepted (fs : List Recorded) (s : StreamData) : Type 0 where
  pub present : IsPresent fs
  pub among : (f : Recorded) → Contains s.waiting f → Contains fs f
  pub waiting : IsPresent s.waiting
  pub links : length s.fronts ≡ length s.topo.links
  pub fronts : (link : ℕ) → IsFrontOf link fs (front_at s.fronts link)
  pub courses : AreCourses s.midway s.topo (areas_in s) fs s.waiting s.courses

-- The rows of a manager that were told so far.
abbrev pub told_by : StreamData → List Recorded → ℕ → List Row
told_by s fs manager = told s.topo (areas_in s) fs manager s.midway

-- The manager has the link.
abbrev pub IsOn : Topology → ℕ → ℕ → Type 0
IsOn topo link manager = Contains (clients_of manager (declared_links topo)) link

-- A fragment comes in on its link. Its manager tells these rows more, and no other tells any.
pub record Accepts (fs : List Recorded) (old : StreamData) (f : Frag) (new : StreamData) (rows : List Row) : Type 0 where
  pub link : ℕ
  pub named : number_of_name old.topo.links f.link ≡ Some link
  pub topo : new.topo ≡ old.topo
  pub regions : new.regions ≡ old.regions
  pub midway : new.midway ≡ old.midway
  pub accepted : HasAccepted (put_in (recorded link f) fs) new
  pub own : (manager : ℕ) → IsOn old.topo link manager → told_by old (put_in (recorded link f) fs) manager ≡ told_by old fs manager ++ rows
  pub others : (manager : ℕ) → (IsOn old.topo link manager → ⊥) → told_by old (put_in (recorded link f) fs) manager ≡ told_by old fs manager

-- A fragment of the link came whose number is this one or a higher one.
abbrev pub IsNumberOld : List Recorded → ℕ → ℕ → Type 0
IsNumberOld fs link number = (f : Recorded) × Contains fs f × (f.link ≡ link) × (number ≤ f.number)

-- The newest fragment of the link has this number, and ends with the cycle or after it.
abbrev pub IsRangeOld : List Recorded → ℕ → ℕ → ℕ → Type 0
IsRangeOld fs link first number = (f : Recorded) × Contains fs f × (f.link ≡ link) × (f.number ≡ number) × (first ≤ f.last)

-- Why a fragment is refused, where memory is not the cause. It then leaves the stream as it was.
abbrev pub IsCause : List Recorded → Topology → Frag → StreamFault → Type 0
IsCause fs topo f fault.UnknownLink = number_of_name topo.links f.link ≡ None
IsCause fs topo f fault.NumberNotAbove = (link : ℕ) × (number_of_name topo.links f.link ≡ Some link) × IsNumberOld fs link f.number
IsCause fs topo f (fault.RangeNotAfter number) = (link : ℕ) × (number_of_name topo.links f.link ≡ Some link) × IsRangeOld fs link f.first number × (IsNumberOld fs link f.number → ⊥)
IsCause fs topo f fault.Memory = Unit {0}

abbrev pub Refuses : List Recorded → StreamData → Frag → StreamFault → StreamData → Type 0
Refuses fs old f fault.Memory new = new.topo ≡ old.topo
Refuses fs old f cause new = IsCause fs old.topo f cause × (new ≡ old)

-- Exactly the cycles up to this one are complete on all links of the manager that has a link; none where there is none.
abbrev pub IsThrough : StreamData → List Recorded → ℕ → Option ℕ → Type 0
IsThrough s fs link through = (decl : LinkDecl) → slice_get (declared_links s.topo) link ≡ Some decl → (cycle : ℕ) → cycle < 2 ^ 64
    → is_complete (clients_of decl.manager (declared_links s.topo)) fs cycle ≡ nat_lt cycle (past through)
