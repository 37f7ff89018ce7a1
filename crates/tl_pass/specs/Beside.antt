-- Links whose fragments several threads take.
use Rattle.std.specs.Prelude.{ℕ, suc, ◌≡◌, ◌<◌, List, [], ◌∷◌, None, slice_index_or, length}
use Rattle.std.specs.Arc.{arc_value}
use Rattle.tl_topology.specs.Topology.{Topology}
use Rattle.tl_beats.specs.Fragments.{Frag}
use Rattle.tl_apart.specs.Apart.{HasApart}
use Rattle.tl_apart.specs.Beside.{Follows}
use Rattle.tl_apart.specs.FeedData.{FeedData}
use Rattle.tl_pass.specs.Reports.{standing}
use Rattle.tl_pass.specs.declared.beside.Beside.{Beside}

-- The feed of a link took fragments that were given of it, or is for nothing more.
abbrev pub Filled : (ℕ → List Frag → Type 0) → Topology → ℕ → FeedData → FeedData → Type 0
Filled Gives topo link old new = new.fault ≡ None → (fs : List Frag) × Gives link fs × Follows topo link fs old new

-- Each of them did.
abbrev pub AreFilled : (ℕ → List Frag → Type 0) → Topology → List FeedData → List FeedData → Type 0
AreFilled Gives topo olds news = (length news ≡ length olds) × ((link : ℕ) (d : FeedData) → link < length olds → Filled Gives topo link (slice_index_or olds link d) (slice_index_or news link d))

-- From one link on, these were given of each.
abbrev pub AreGiven : (ℕ → List Frag → Type 0) → ℕ → List (List Frag) → Type 0
AreGiven Gives link [] = Unit {0}
AreGiven Gives link (fs ∷ each) = Gives link fs × AreGiven Gives (suc link) each

-- Of each link of the topology some were given, and this holds of them.
abbrev pub IsRound : (ℕ → List Frag → Type 0) → Topology → (List (List Frag) → Type 0) → Type 0
IsRound Gives topo Holds = (each : List (List Frag)) × (length each ≡ length topo.links) × AreGiven Gives 0 each × Holds each

-- These fragments came.
pub record IsBeside (topo : Topology) (fs : List Frag) (beside : Beside) : Type 0 where
  pub on : arc_value beside.topo ≡ topo
  pub has : HasApart topo (standing topo fs) beside.apart
  pub long : length (standing topo fs) ≡ length fs
