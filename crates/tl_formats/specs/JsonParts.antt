-- What parts write in JSON, merged.
use Rattle.std.specs.Prelude.{ℕ, ◌≡◌, ◌==◌, false, List, Vec, map}
use Rattle.std.specs.List.{All, Contains, flat_map}
use Rattle.std.specs.Option.{option_map_or}
use Rattle.std.specs.declared.alloc.Global.{Global}
use Rattle.serde_json.specs.Read.{read as data_of}
use Rattle.tl_text.specs.Words.{◌>>=◌, ended}
use Rattle.tl_topology.specs.Regions.{Area}
use Rattle.tl_topology.specs.Topology.{Topology}
use Rattle.tl_beats.specs.declared.Row.{Row}
use Rattle.tl_beats.specs.declared.watch.Watch.{Watch}
use Rattle.tl_definitions.specs.Positions.{Recorded}
use Rattle.tl_definitions.specs.Report.{IsReport}
use Rattle.tl_check.specs.Captured.{captures_with}
use Rattle.tl_formats.specs.JsonReports.{row_in, MergesJson}
use Rattle.tl_formats.specs.Parts.{Share, AreParts, IsPartition, TellLinks}
use Rattle.tl_formats.specs.declared.report_row.ReportRow.{ReportRow}

-- The link of the row that a line tells.
abbrev pub told_link : Topology → List ℕ → ℕ
told_link topo line = option_map_or (λ (row : ℕ × ReportRow). row.1.link) (data_of line >>= row_in topo) 0

-- No line has a newline.
abbrev pub AreOneLine : (Row → List ℕ) → List Row → Type 0
AreOneLine line rows = (row : Row) → Contains rows row → All (λ byte. (byte == 10) ≡ false) (line row)

-- The text of rows with these lines.
abbrev pub text_by : (Row → List ℕ) → List Row → List ℕ
text_by line rows = flat_map (λ row. ended (line row)) rows

-- The texts of the parts, merged, are the text of the report of all, byte for byte, whatever the line of a row is.
abbrev pub JsonPartsMakeTheWhole : Type 0
JsonPartsMakeTheWhole = (line : Row → List ℕ) (topo : Topology) (fragments : List Recorded) (regions : List (List (ℕ × Area))) (watches : List (ℕ × Watch)) (shares : List Share)
    (whole : List Row) (parts : List (List Row)) (texts : List (Vec ℕ Global)) (made : List ℕ) → AreOneLine line whole → TellLinks line (told_link topo) whole
    → IsPartition topo shares → IsReport (captures_with topo fragments regions watches) whole → AreParts topo fragments regions watches shares parts
    → map (λ text. text.items) texts ≡ map (text_by line) parts → MergesJson topo texts made → made ≡ text_by line whole
