-- What a pass over fragments reports.
use Rattle.std.specs.Prelude.{ℕ, ◌≡◌, ◌<◌, ◌↔◌, List, [], ◌∷◌, ◌++◌, Option, Some, None, length}
use Rattle.std.specs.Arc.{arc_value}
use Rattle.std.specs.Io.Iter.{u64_saturate}
use Rattle.std.specs.List.{All, Contains}
use Rattle.std.specs.Option.{option_map_or}
use Rattle.std.specs.declared.sync.Arc.{Arc}
use Rattle.tl_topology.specs.Topology.{Topology, number_of_name}
use Rattle.tl_beats.specs.Fragments.{Frag}
use Rattle.tl_beats.specs.declared.Row.{Row}
use Rattle.tl_definitions.specs.Positions.{Recorded}
use Rattle.tl_definitions.specs.Report.{FindsIn, IsReport}
use Rattle.tl_capture.specs.Present.{recorded, IsPresent}
use Rattle.tl_edits.specs.Inputs.{InputData}
use Rattle.tl_edits.specs.Log.{inputs_after}
use Rattle.tl_check.specs.Captured.{areas_at, captures_with}
use Rattle.tl_check.specs.Once.{adds}
use Rattle.tl_midway.specs.Counts.{beats_counted}
use Rattle.tl_midway.specs.LeadIns.{leads_in}
use Rattle.tl_midway.specs.Report.{IsMidwayReport, IsPrinted}
use Rattle.tl_midway.specs.declared.midway.Midway.{Midway}
use Rattle.tl_pass.specs.declared.pass.Found.{Found}
use Rattle.tl_pass.specs.declared.supply.Taken.{Taken}

-- The row is found in fragments without regions and monitors, of a whole run or of a capture that begins so in the middle of one.
abbrev pub IsFound : Option Midway → Topology → List Recorded → Row → Type 0
IsFound None topo fs row = FindsIn (captures_with topo fs [] []) row
IsFound (Some law) topo fs row = IsPrinted law topo (areas_at []) fs (length topo.managers) row

-- Fragments as edits leave them, without regions and monitors.
abbrev pub bare_inputs : Topology → List Recorded → InputData
bare_inputs topo fs = record { topo = topo; fragments = fs; regions = []; monitors = [] }

-- The rows are the report of fragments of a whole run, or of a capture that begins so in the middle of one.
abbrev pub IsReportBy : Option Midway → Topology → List Recorded → List Row → Type 0
IsReportBy None topo fs rows = IsReport (captures_with topo fs [] []) rows
IsReportBy (Some law) topo fs rows = IsMidwayReport law (bare_inputs topo fs) rows

-- The rows are the report of fragments, without regions and monitors, and of links of the topology.
pub record AreReportOf (midway : Option Midway) (topo : Topology) (fs : List Recorded) (rows : List Row) : Type 0 where
  pub present : IsPresent fs
  pub report : IsReportBy midway topo fs rows
  pub links : All (λ row. row.link < length topo.links) rows

-- So many of their beats are in lead-ins. Of a whole run nothing is said.
abbrev pub CountsLeadIns : Option Midway → Topology → List Recorded → ℕ → Type 0
CountsLeadIns None topo fs count = Unit {0}
CountsLeadIns (Some law) topo fs count = count ≡ u64_saturate (beats_counted leads_in law (bare_inputs topo fs))

-- This is the report of the fragments, and how many of their beats are in lead-ins.
pub record IsReportIn (midway : Option Midway) (topo : Topology) (fs : List Recorded) (found : Found) : Type 0 where
  pub rows : AreReportOf midway topo fs found.rows.items
  pub lead_ins : CountsLeadIns midway topo fs found.lead_ins

-- The same, but for the order of the rows.
pub record IsFoundIn (midway : Option Midway) (topo : Topology) (fs : List Recorded) (rows : List Row) (lead_ins : ℕ) : Type 0 where
  pub members : (row : Row) → Contains rows row ↔ IsFound midway topo fs row
  pub counted : CountsLeadIns midway topo fs lead_ins

-- The fragment is recorded on its link, and this holds of that.
abbrev pub ComesOn : Topology → Frag → (Recorded → Type 0) → Type 0
ComesOn topo f Holds = (link : ℕ) × (number_of_name topo.links f.link ≡ Some link) × Holds (recorded link f)

-- What stands on the links once these fragments are added, each by an edit.
abbrev pub standing : Topology → List Frag → List Recorded
standing topo fs = (inputs_after topo (adds fs)).fragments

-- So many fragments are counted as these, and this is found in them.
abbrev pub IsTaken : Option Midway → Topology → List Frag → Taken → Type 0
IsTaken midway topo fs taken = (taken.fragments ≡ length fs) × IsReportIn midway topo (standing topo fs) taken.found

-- With the next fragment, where it isn't passed over.
abbrev pub with_next : {Z : Type 0} → List Frag → Option (Arc Frag Z) → List Frag
with_next fs next = option_map_or (λ f. fs ++ arc_value f ∷ []) next fs
