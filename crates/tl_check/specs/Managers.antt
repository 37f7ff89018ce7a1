-- The links of a manager with caches, and those without; and the captures of managers.
use Rattle.std.specs.Prelude.{ℕ, ◌≡◌, ◌+◌, ◌↔◌, Bool, false, not, List, [], ◌∷◌, filter, map}
use Rattle.std.specs.List.{Contains}
use Rattle.tl_tables.specs.Messages.{level_le}
use Rattle.tl_tables.specs.declared.Level.TheVariants as level
use Rattle.tl_topology.specs.Regions.{Area}
use Rattle.tl_topology.specs.Topology.{Topology}
use Rattle.tl_beats.specs.declared.Placed.{Placed}
use Rattle.tl_beats.specs.declared.Row.{Row}
use Rattle.tl_definitions.specs.Captures.{captures_of, manager_beats}
use Rattle.tl_definitions.specs.Judging.{snapshot, judging}
use Rattle.tl_definitions.specs.Managers.{declared_links, manager_at}
use Rattle.tl_definitions.specs.Passes.{rows_judged}
use Rattle.tl_definitions.specs.Positions.{Recorded, clients_of, links_of}
use Rattle.tl_definitions.specs.Report.{Capture, of_manager}
use Rattle.tl_definitions.specs.Rules.{Manager}
use Rattle.tl_check.specs.Apart.{rows_of_links}
use Rattle.tl_check.specs.Captured.{areas_at, AllRegions}
use Rattle.tl_check.specs.Found.{AreFound}

-- The link with this number is of the level of caches.
abbrev pub has_caches : Topology → ℕ → Bool
has_caches topo link = level_le level.C (links_of (declared_links topo) link).level

abbrev pub cached_links : Topology → List ℕ → List ℕ
cached_links topo links = filter (has_caches topo) links

abbrev pub plain_links : Topology → List ℕ → List ℕ
plain_links topo links = filter (λ link. not (has_caches topo link)) links

abbrev pub IsPlain : Topology → ℕ → Type 0
IsPlain topo link = has_caches topo link ≡ false

-- The rows are those of these beats of a manager, judged from the first on.
abbrev pub AreMerged : Manager → List Placed → List Row → Type 0
AreMerged m beats rows = (row : Row) → Contains rows row ↔ Contains (rows_judged (judging m) (snapshot m []) beats) row

-- The rows are those of the links of a manager that have no caches.
abbrev pub ArePlainRows : Topology → ℕ → List Area → List Recorded → List Row → Type 0
ArePlainRows topo manager areas fs rows = rows ≡ rows_of_links (manager_at topo manager areas) fs (plain_links topo (clients_of manager (declared_links topo)))

-- The rows are those of a manager, in any order and any number of times.
abbrev pub AreOfManager : Topology → ℕ → List Area → List Recorded → List Row → Type 0
AreOfManager topo manager areas fs rows = AreFound (of_manager (manager_at topo manager areas) (manager_beats topo fs manager) ∷ []) rows

-- The rows are those of all managers with their regions, in any order and any number of times.
abbrev pub AreOfManagers : Topology → AllRegions → List Recorded → List Row → Type 0
AreOfManagers topo regions fs rows = AreFound (captures_of topo (areas_at regions) fs) rows

-- The captures of the managers with these numbers.
abbrev pub captures_at : Topology → (ℕ → List Area) → List Recorded → List ℕ → List Capture
captures_at topo regions fs managers = map (λ manager. of_manager (manager_at topo manager (regions manager)) (manager_beats topo fs manager)) managers

-- The rows are those of the managers with these numbers, in any order and any number of times.
pub record HasManagers (topo : Topology) (regions : AllRegions) (fs : List Recorded) (managers : List ℕ) (rows : List Row) : Type 0 where
  pub found : AreFound (captures_at topo (areas_at regions) fs managers) rows

-- The numbers of items, from one on.
abbrev pub numbered : {X : Type 0} → ℕ → List X → List ℕ
numbered number [] = []
numbered number (item ∷ items) = number ∷ numbered (number + 1) items
