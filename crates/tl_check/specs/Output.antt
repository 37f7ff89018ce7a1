-- The bytes of a report.
use Rattle.std.specs.Prelude.{ℕ, List, [], ◌∷◌, ◌++◌, length, codes, Option, Some, None}
use Rattle.std.specs.Fmt.{decimal}
use Rattle.std.specs.Option.{option_map_or}
use Rattle.std.specs.List.{slice_get, flat_map}
use Rattle.tl_tables.specs.Rules.{rule_text_of}
use Rattle.tl_topology.specs.Topology.{Topology}
use Rattle.tl_beats.specs.declared.Row.{Row}

-- A report: its version, the number of edits that it speaks of, and its rows.
pub record ReportData : Type 0 where
  pub version : ℕ
  pub edit : ℕ
  pub rows : List Row

abbrev pub link_text : Topology → ℕ → List ℕ
link_text topo link = option_map_or (λ p. p.1.name) (slice_get topo.links link) []

-- the number of the monitor, where the row is one's
abbrev pub monitor_text : Option ℕ → List ℕ
monitor_text None = []
monitor_text (Some monitor) = codes " " ++ decimal monitor

-- the pieces, one after the other
abbrev pub joined : List (List ℕ) → List ℕ
joined [] = []
joined (piece ∷ pieces) = piece ++ joined pieces

abbrev pub newline : List ℕ
newline = 10 ∷ []

-- link, fragment, line and rule, and the monitor of an X1
unfoldable pub row_text : Topology → Row → List ℕ
row_text topo row = joined (link_text topo row.link ∷ codes " " ∷ decimal row.fragment ∷ codes " " ∷ decimal row.line ∷ codes " " ∷ rule_text_of row.rule ∷ monitor_text row.monitor ∷ newline ∷ [])

unfoldable pub head_text : ReportData → List ℕ
head_text report = joined (codes "report " ∷ decimal report.version ∷ codes " edit " ∷ decimal report.edit ∷ codes " rows " ∷ decimal (length report.rows) ∷ newline ∷ [])

-- a line that counts the rows, and a line for each
unfoldable pub report_bytes : Topology → ReportData → List ℕ
report_bytes topo report = head_text report ++ flat_map (row_text topo) report.rows

-- ---- what checking everything anew after so many edits finds

unfoldable pub audit_head : ℕ → ℕ → List ℕ
audit_head edit count = joined (codes "audit " ∷ decimal edit ∷ codes " rows " ∷ decimal count ∷ newline ∷ [])

unfoldable pub audit_bytes : Topology → ℕ → List Row → List ℕ
audit_bytes topo edit rows = audit_head edit (length rows) ++ flat_map (row_text topo) rows
