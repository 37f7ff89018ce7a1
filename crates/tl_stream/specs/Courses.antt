-- How far managers are judged.
use Rattle.std.specs.Prelude.{ℕ, ◌≡◌, ◌+◌, ◌++◌, ◌<◌, ◌≤◌, ◌^◌, ◌⊎◌, nat_lt, true, List, [], Option, Some, None, filter, length, reverse, slice_get}
use Rattle.std.specs.List.{Contains}
use Rattle.tl_topology.specs.Regions.{Area}
use Rattle.tl_topology.specs.Topology.{Topology}
use Rattle.tl_beats.specs.declared.Placed.{Placed}
use Rattle.tl_beats.specs.declared.Row.{Row}
use Rattle.tl_definitions.specs.Captures.{manager_beats}
use Rattle.tl_definitions.specs.Managers.{declared_links, manager_at}
use Rattle.tl_definitions.specs.Positions.{Recorded, beats_of_all, clients_of}
use Rattle.tl_capture.specs.Windows.{beats_within}
use Rattle.tl_capture.specs.Present.{IsPresent}
use Rattle.tl_midway.specs.declared.midway.Midway.{Midway}
use Rattle.tl_stream.specs.Fronts.{front_at, is_complete, IsFrontOf}
use Rattle.tl_stream.specs.Pasts.{IsOf, StandsFor, GoesOn, rows_in}
use Rattle.tl_stream.specs.declared.course.Course.{Course}
use Rattle.tl_stream.specs.declared.front.Front.{Front}
use Rattle.tl_stream.specs.declared.past.Past.{Past}

-- the first cycle that is not judged
abbrev pub next_from : Option ℕ → ℕ
next_from None = 2 ^ 64
next_from (Some cycle) = cycle

abbrev pub next_of : Course → ℕ
next_of course = next_from course.next

-- The course is one of a manager of the topology, with its links.
pub record IsRunning (topo : Topology) (areas : List Area) (course : Course) : Type 0 where
  pub declared : course.manager < length topo.managers
  pub links : course.links.items ≡ clients_of course.manager (declared_links topo)
  pub formed : (state : Past) → course.state ≡ Some state → IsOf (manager_at topo course.manager areas) state

-- the beats of a manager before a cycle
abbrev pub beats_before : ℕ → List Placed → List Placed
beats_before cycle ps = filter (λ p. nat_lt p.beat.cycle cycle) ps

-- Nothing is judged yet. A manager without links has no cycle that waits.
pub record IsNewCourse (midway : Option Midway) (topo : Topology) (manager : ℕ) (course : Course) : Type 0 where
  pub owner : course.manager ≡ manager
  pub law : course.midway ≡ midway
  pub links : course.links.items ≡ clients_of manager (declared_links topo)
  pub stands : (areas : List Area) (state : Past) → course.state ≡ Some state → StandsFor midway (manager_at topo manager areas) state []
  pub next : (cycle : ℕ) → cycle < 2 ^ 64 → is_complete course.links.items [] cycle ≡ nat_lt cycle (next_of course)

-- One for each manager, by number.
pub record AreNewCourses (midway : Option Midway) (topo : Topology) (courses : List Course) : Type 0 where
  pub count : length courses ≡ length topo.managers
  pub each : (manager : ℕ) (course : Course) → slice_get courses manager ≡ Some course → IsNewCourse midway topo manager course

-- The beats that wait from the course on up to a cycle are judged: these are their rows.
pub record GoesTo (topo : Topology) (areas : List Area) (waiting : List Recorded) (to : ℕ) (old new : Course) (rows : List Row) : Type 0 where
  pub before : Past
  pub after : Past
  pub had : old.state ≡ Some before
  pub has : new.state ≡ Some after
  pub judged : GoesOn (manager_at topo old.manager areas) before (beats_within (next_of old) to (beats_of_all old.links.items waiting)) after rows
  pub next : next_of new ≡ to + 1

-- What a course has come to that was judged up to a cycle, if it wasn't before.
pub record Judged (topo : Topology) (areas : List Area) (waiting : List Recorded) (to : ℕ) (old new : Course) (rows : List Row) : Type 0 where
  pub manager : new.manager ≡ old.manager
  pub midway : new.midway ≡ old.midway
  pub links : new.links ≡ old.links
  pub done : to < next_of old → (new ≡ old) × (rows ≡ [])
  pub gone : next_of old ≤ to → GoesTo topo areas waiting to old new rows

-- A course that lost its state.
pub record IsLost (old new : Course) : Type 0 where
  pub manager : new.manager ≡ old.manager
  pub midway : new.midway ≡ old.midway
  pub links : new.links ≡ old.links
  pub state : new.state ≡ None

-- The fragments of these links wait, or end before a cycle.
abbrev pub Waits : List ℕ → List Recorded → List Recorded → ℕ → Type 0
Waits links fs waiting cycle = (f : Recorded) → Contains fs f → Contains links f.link → Contains waiting f ⊎ (f.last < cycle)

-- The state of a course stands for the beats before its next cycle, and the fragments of its links with others wait.
pub record Stands (topo : Topology) (areas : List Area) (fs waiting : List Recorded) (course : Course) (state : Past) : Type 0 where
  pub shows : StandsFor course.midway (manager_at topo course.manager areas) state (reverse (beats_before (next_of course) (manager_beats topo fs course.manager)))
  pub waits : Waits course.links.items fs waiting (next_of course)

-- Exactly the cycles before the next one are complete, or those among others.
abbrev pub IsComplete : List Recorded → Course → Type 0
IsComplete fs course = (cycle : ℕ) → cycle < 2 ^ 64 → is_complete course.links.items fs cycle ≡ nat_lt cycle (next_of course)

abbrev pub IsBehind : List Recorded → Course → Type 0
IsBehind fs course = (cycle : ℕ) → cycle < 2 ^ 64 → nat_lt cycle (next_of course) ≡ true → is_complete course.links.items fs cycle ≡ true

-- The course of a manager that accepted these fragments, of which these wait. One that lost its state to want of memory stays so.
pub record IsCourse (topo : Topology) (areas : List Area) (fs waiting : List Recorded) (course : Course) : Type 0 where
  pub running : IsRunning topo areas course
  pub complete : (state : Past) → course.state ≡ Some state → IsComplete fs course
  pub stands : (state : Past) → course.state ≡ Some state → Stands topo areas fs waiting course state

-- The courses of all managers, by number.
pub record AreCourses (midway : Option Midway) (topo : Topology) (regions : ℕ → List Area) (fs waiting : List Recorded) (courses : List Course) : Type 0 where
  pub count : length courses ≡ length topo.managers
  pub own : (manager : ℕ) (course : Course) → slice_get courses manager ≡ Some course → course.manager ≡ manager
  pub same : (manager : ℕ) (course : Course) → slice_get courses manager ≡ Some course → course.midway ≡ midway
  pub each : (manager : ℕ) (course : Course) → slice_get courses manager ≡ Some course → IsCourse topo (regions manager) fs waiting course

-- The same before the cycles are judged that the last fragment completed.
pub record WasCourse (topo : Topology) (areas : List Area) (fs waiting : List Recorded) (course : Course) : Type 0 where
  pub running : IsRunning topo areas course
  pub complete : (state : Past) → course.state ≡ Some state → IsBehind fs course
  pub stands : (state : Past) → course.state ≡ Some state → Stands topo areas fs waiting course state

-- Of the fragments that waited only those of the course's links are gone.
pub record Loses (links : List ℕ) (old new : List Recorded) : Type 0 where
  pub among : (f : Recorded) → Contains new f → Contains old f
  pub others : (f : Recorded) → Contains old f → (Contains links f.link → ⊥) → Contains new f

-- These fragments came, of which these wait, and the course is judged up to what was complete before the last of them.
pub record HasCome (topo : Topology) (areas : List Area) (fs : List Recorded) (fronts : List (Option Front)) (waiting : List Recorded) (course : Course) : Type 0 where
  pub present : IsPresent fs
  pub present_waiting : IsPresent waiting
  pub among : (f : Recorded) → Contains waiting f → Contains fs f
  pub are_fronts : (link : ℕ) → IsFrontOf link fs (front_at fronts link)
  pub was : WasCourse topo areas fs waiting course

-- This holds of the areas and of whatever fragments came of which these wait.
abbrev pub ForCome : Topology → List Area → List (Option Front) → List Recorded → Course → (List Area → List Recorded → Type 0) → Type 0
ForCome topo areas fronts waiting course Holds = (fs : List Recorded) → HasCome topo areas fs fronts waiting course → Holds areas fs

-- These fragments came, of which these wait, and the courses of all managers are judged up to what they completed.
pub record HasEnded (midway : Option Midway) (topo : Topology) (regions : ℕ → List Area) (fs waiting : List Recorded) (courses : List Course) : Type 0 where
  pub present : IsPresent fs
  pub present_waiting : IsPresent waiting
  pub among : (f : Recorded) → Contains waiting f → Contains fs f
  pub are_courses : AreCourses midway topo regions fs waiting courses

-- What judging what the last fragment completed makes of a course and of the fragments that wait.
pub record Advances (topo : Topology) (areas : List Area) (fs : List Recorded) (old : Course) (waited : List Recorded) (new : Course) (waiting : List Recorded) : Type 0 where
  pub manager : new.manager ≡ old.manager
  pub midway : new.midway ≡ old.midway
  pub links : new.links ≡ old.links
  pub course : IsCourse topo areas fs waiting new
  pub loses : Loses old.links.items waited waiting
  pub present : IsPresent waiting

-- These are the rows of the beats that became complete.
abbrev pub AreNewRows : Topology → List Area → List Recorded → Course → List Row → Type 0
AreNewRows topo areas fs old rows = rows_in old.midway (manager_at topo old.manager areas) (filter (λ p. is_complete old.links.items fs p.beat.cycle) (manager_beats topo fs old.manager))
    ≡ rows_in old.midway (manager_at topo old.manager areas) (beats_before (next_of old) (manager_beats topo fs old.manager)) ++ rows
