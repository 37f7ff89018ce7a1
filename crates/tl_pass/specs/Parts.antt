-- Links that are judged apart, and what is found of them.
use Rattle.std.specs.Prelude.{ℕ, ◌≡◌, ◌<◌, ◌≤◌, ◌⊎◌, false, List, Option, Some, length, IfOk, Result}
use Rattle.std.specs.List.{All, AllZip, Contains}
use Rattle.tl_topology.specs.Topology.{Topology, number_of_name}
use Rattle.tl_beats.specs.Fragments.{Frag}
use Rattle.tl_beats.specs.declared.Row.{Row}
use Rattle.tl_definitions.specs.Managers.{declared_links}
use Rattle.tl_definitions.specs.Positions.{Recorded, links_of}
use Rattle.tl_capture.specs.Present.{IsPresent}
use Rattle.tl_check.specs.Managers.{has_caches}
use Rattle.tl_midway.specs.declared.midway.Midway.{Midway}
use Rattle.tl_pass.specs.Reports.{IsFoundIn, IsReportIn, standing}
use Rattle.tl_pass.specs.declared.pass.Hitch.{Hitch}
use Rattle.tl_pass.specs.declared.part.Part.{Part}
use Rattle.tl_pass.specs.declared.part.Whole.{Whole}

-- No link of the topology has caches.
abbrev pub HasNoCaches : Topology → Type 0
HasNoCaches topo = (link : ℕ) → link < length topo.links → has_caches topo link ≡ false

abbrev pub manager_of : Topology → ℕ → ℕ
manager_of topo link = (links_of (declared_links topo) link).manager

-- No manager has links below this one and others.
abbrev pub IsCut : Topology → ℕ → Type 0
IsCut topo link = (low high : ℕ) → low < link → link ≤ high → high < length topo.links → manager_of topo low ≡ manager_of topo high → ⊥

-- The links below this one may be judged apart from the others.
abbrev pub CanPart : Topology → ℕ → Type 0
CanPart topo link = HasNoCaches topo ⊎ IsCut topo link

-- The fragments are of this link or of later ones.
abbrev pub AreFrom : ℕ → List Recorded → Type 0
AreFrom link fs = (f : Recorded) → Contains fs f → link ≤ f.link

-- The fragments are of links below this one, and this is found in them: of a whole run, or of a capture that begins so.
pub record HasJudged (midway : Option Midway) (topo : Topology) (next : ℕ) (fs : List Recorded) (rows : List Row) (lead_ins : ℕ) : Type 0 where
  pub present : IsPresent fs
  pub below : (f : Recorded) → Contains fs f → f.link < next
  pub found : IsFoundIn midway topo fs rows lead_ins

-- The fragment's link is one of these.
abbrev pub IsWithin : Topology → ℕ → ℕ → Frag → Type 0
IsWithin topo first next f = (link : ℕ) × (number_of_name topo.links f.link ≡ Some link) × (first ≤ link) × (link < next)

-- The part is what is found in these fragments, which are of its links.
pub record IsPart (midway : Option Midway) (topo : Topology) (fs : List Frag) (part : Part) : Type 0 where
  pub within : All (IsWithin topo part.links.first part.links.next) fs
  pub count : part.fragments ≡ length fs
  pub report : IsReportIn midway topo (standing topo fs) part.found

-- Each part is what is found in its fragments, or a hitch.
abbrev pub AreParts : Option Midway → Topology → List (List Frag) → List (Result Part Hitch) → Type 0
AreParts midway topo each parts = AllZip (λ found fs. IfOk found (IsPart midway topo fs)) parts each

-- What came are these fragments, of links below the next part's, and this is found in them.
pub record IsWhole (midway : Option Midway) (topo : Topology) (fs : List Frag) (whole : Whole) : Type 0 where
  pub count : whole.fragments ≡ length fs
  pub judged : HasJudged midway topo whole.next (standing topo fs) whole.rows.items whole.lead_ins
