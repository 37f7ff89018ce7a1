-- Beats by link, and what is open on each after the last of them.
use Rattle.std.specs.Prelude.{ℕ, ◌≡◌, ◌<◌, List, [], ◌∷◌, length, reverse, slice_index_or}
use Rattle.tl_topology.specs.Topology.{Topology}
use Rattle.tl_definitions.specs.Positions.{Recorded, beats_of_all}
use Rattle.tl_rows.specs.Counts.{AreOpen}
use Rattle.tl_rows.specs.States.{manager_with}
use Rattle.tl_show.specs.Lines.{link_at, block_at}
use Rattle.tl_advice.specs.declared.links.LinkCount.{LinkCount}

-- What is told of a link: its name, how many beats these fragments have of it, and what those leave open.
pub record IsCountOf (topo : Topology) (fragments : List Recorded) (link : ℕ) (own : LinkCount) : Type 0 where
  pub named : own.name ≡ (link_at topo link).name
  pub counted : own.beats ≡ length (beats_of_all (link ∷ []) fragments)
  pub left_open : AreOpen (manager_with topo (block_at topo (link_at topo link)) (link ∷ [])) (reverse (beats_of_all (link ∷ []) fragments)) own.still_open

-- It is told of each of the links, from the first on.
abbrev pub AreInOrder : Topology → List Recorded → List LinkCount → Type 0
AreInOrder topo fragments counts = (link : ℕ) (d : LinkCount) → link < length counts → IsCountOf topo fragments link (slice_index_or counts link d)

-- It is told of all links of the topology.
pub record AreCounted (topo : Topology) (fragments : List Recorded) (counts : List LinkCount) : Type 0 where
  pub all : length counts ≡ length topo.links
  pub each : AreInOrder topo fragments counts
