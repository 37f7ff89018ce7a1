-- The report of fragments that are added one after the other.
use Rattle.std.specs.Prelude.{◌≡◌, ◌+◌, ℕ, List, [], ◌∷◌, length, map, Option, Some, None}
use Rattle.std.specs.Arc.{arc_value}
use Rattle.std.specs.Option.{option_map_or}
use Rattle.std.specs.declared.sync.Arc.{Arc}
use Rattle.tl_topology.specs.Topology.{Topology}
use Rattle.tl_beats.specs.Fragments.{Frag}
use Rattle.tl_beats.specs.declared.Row.{Row}
use Rattle.tl_definitions.specs.Report.{IsReport}
use Rattle.tl_edits.specs.Edits.{AnEdit, add, code_of, number_of}
use Rattle.tl_edits.specs.Inputs.{InputData, blank, changed, refusal}
use Rattle.tl_edits.specs.Log.{inputs_after}
use Rattle.tl_edits.specs.declared.fault.EditFault.{EditFault}
use Rattle.tl_edits.specs.declared.fault.EditFault.TheVariants as edit
use Rattle.tl_check.specs.Captured.{captures_after}
use Rattle.tl_check.specs.Output.{report_bytes}
use Rattle.tl_check.specs.declared.once.OnceFault.{OnceFault}
use Rattle.tl_check.specs.declared.once.OnceFault.TheVariants as once

-- Each of these fragments is one edit, which adds it.
abbrev pub adds : List Frag → List AnEdit
adds fs = map add fs

-- The first refusal of edits that come one after the other, after so many others.
abbrev pub refusal_from : ℕ → InputData → List AnEdit → Option EditFault
refusal_from edits now [] = None
refusal_from edits now (e ∷ es) = option_map_or (λ why. Some why) (refusal edits now e) (refusal_from (edits + 1) (changed now e) es)

abbrev pub first_refusal : Topology → List Frag → Option EditFault
first_refusal topo fs = refusal_from 0 (blank topo) (adds fs)

-- The first refusal has this code, and names this number.
abbrev pub IsRefusal : Topology → List Frag → ℕ → Option ℕ → Type 0
IsRefusal topo fs code number = (why : EditFault) × (first_refusal topo fs ≡ Some why) × (code_of why ≡ code) × (number_of why ≡ number)

abbrev pub of_edit : EditFault → OnceFault
of_edit edit.Memory = once.Memory
of_edit why = once.Refused (code_of why) (number_of why)

-- The text of a report after this many edits, version 1.
abbrev pub text_once : Topology → ℕ → List Row → List ℕ
text_once topo edits rows = report_bytes topo (record { version = 1; edit = edits; rows = rows })

-- Each fragment is added, and the rows are the report of what then stands.
abbrev pub AreRowsOf : Topology → List Frag → List Row → Type 0
AreRowsOf topo fs rows = (first_refusal topo fs ≡ None) × IsReport (captures_after (inputs_after topo (adds fs))) rows

-- These fragments have a report of so many rows, and this holds of its text.
abbrev pub HasReport : {Z : Type 0} → Topology → List (Arc Frag Z) → ℕ → (List ℕ → Type 0) → Type 0
HasReport topo fragments count Holds = (rows : List Row) × AreRowsOf topo (map arc_value fragments) rows × (count ≡ length rows)
    × Holds (text_once topo (length fragments) rows)

-- They have a report, and this holds of its text.
abbrev pub HasReportText : {Z : Type 0} → Topology → List (Arc Frag Z) → (List ℕ → Type 0) → Type 0
HasReportText topo fragments Holds = (rows : List Row) × AreRowsOf topo (map arc_value fragments) rows × Holds (text_once topo (length fragments) rows)
