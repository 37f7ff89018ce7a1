-- The beats of a window link by link: so they are judged where no link of their manager has caches.
use Rattle.std.specs.Prelude.{ℕ, ◌≡◌, ◌⊎◌, List, []}
use Rattle.std.specs.List.{All}
use Rattle.tl_topology.specs.Topology.{Topology}
use Rattle.tl_beats.specs.declared.Placed.{Placed}
use Rattle.tl_definitions.specs.Managers.{declared_links}
use Rattle.tl_definitions.specs.Positions.{clients_of}
use Rattle.tl_capture.specs.Windows.{AreBeatsOf}
use Rattle.tl_check.specs.LinkByLink.{of_each}
use Rattle.tl_check.specs.Managers.{IsPlain}

-- There are no lists, or no link has caches, and there is one for each.
abbrev pub AreApart : Topology → List ℕ → List Placed → List (List Placed) → Type 0
AreApart topo links beats lists = (lists ≡ []) ⊎ (All (IsPlain topo) links × (lists ≡ of_each links beats))

-- These are the beats of a manager without caches, and the lists are those of each of its links.
pub record IsParted (topo : Topology) (manager : ℕ) (beats : List Placed) (lists : List (List Placed)) : Type 0 where
  pub all : AreBeatsOf (clients_of manager (declared_links topo)) beats
  pub plain : All (IsPlain topo) (clients_of manager (declared_links topo))
  pub each : lists ≡ of_each (clients_of manager (declared_links topo)) beats
