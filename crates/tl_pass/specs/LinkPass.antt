-- Links without caches one after the other.
use Rattle.std.specs.Prelude.{ℕ, ◌≡◌, ◌++◌, List, Option}
use Rattle.std.specs.Arc.{arc_value}
use Rattle.std.specs.List.{Contains}
use Rattle.tl_topology.specs.Topology.{Topology}
use Rattle.tl_definitions.specs.Positions.{Recorded}
use Rattle.tl_capture.specs.Present.{IsPresent}
use Rattle.tl_midway.specs.declared.midway.Midway.{Midway}
use Rattle.tl_pass.specs.Parts.{HasNoCaches, HasJudged}
use Rattle.tl_pass.specs.Reports.{IsFoundIn}
use Rattle.tl_pass.specs.declared.link_pass.LinkPass.{LinkPass}
use Rattle.tl_pass.specs.declared.pass.Found.{Found}

-- The fragments are all of one link.
abbrev pub AreOn : ℕ → List Recorded → Type 0
AreOn link fs = (f : Recorded) → Contains fs f → f.link ≡ link

-- Exactly these fragments of links of the topology came, of a whole run or of a capture that begins so: of links of which all is found, and
-- of the link that comes now.
pub record HasCome (midway : Option Midway) (topo : Topology) (fs : List Recorded) (pass : LinkPass) : Type 0 where
  pub begins : pass.midway ≡ midway
  pub on : arc_value pass.topo ≡ topo
  pub plain : HasNoCaches topo
  pub done : List Recorded
  pub judged : HasJudged midway topo pass.link done pass.rows.items pass.lead_ins
  pub kept : IsPresent pass.present
  pub own : AreOn pass.link pass.present
  pub all : fs ≡ done ++ pass.present

-- This is found in the fragments of the link that comes now.
abbrev pub IsOwn : LinkPass → Found → Type 0
IsOwn pass found = IsFoundIn pass.midway (arc_value pass.topo) pass.present found.rows.items found.lead_ins
