-- Reports in JSON: what a line tells of its row, and what merging makes of the lines of different managers.
use Rattle.std.specs.Prelude.{ℕ, ◌≡◌, ◌==◌, ◌-◌, ◌^◌, Bool, true, false, List, [], ◌∷◌, ◌++◌, Vec, Option, Some, None, codes, if◌then◌else◌, is_some, map, nat_lt, option_and_then}
use Rattle.std.specs.List.{All, flat_map, list_any}
use Rattle.std.specs.Str.{bytes_eq}
use Rattle.serde_json.specs.Data.{Data}
use Rattle.serde_json.specs.Find.{get, as_number, as_str, as_u64}
use Rattle.serde_json.specs.Read.{read as data_of}
use Rattle.tl_text.specs.Words.{◌>>=◌, ended, lines_of}
use Rattle.tl_tables.specs.declared.Rule.{Rule}
use Rattle.tl_tables.specs.declared.Rule.TheVariants as rule
use Rattle.tl_tables.specs.Rules.{rule_number, rule_text_of}
use Rattle.tl_text.specs.Naming.{name_at}
use Rattle.tl_topology.specs.Topology.{Topology, number_of_name}
use Rattle.tl_formats.specs.Merging.{IsByLink, Merges}
use Rattle.tl_rows.specs.Choice.{named_rule}
use Rattle.tl_formats.specs.declared.json_report.JsonReport.{JsonReport}
use Rattle.tl_formats.specs.declared.json_row.JsonRow.{JsonRow}
use Rattle.tl_formats.specs.declared.report_row.ReportRow.{ReportRow}

-- ---- members of an object

-- the number below 2^64 at a key
abbrev pub number_in : List ℕ → Data → Option ℕ
number_in key found = option_and_then as_u64 (option_and_then as_number (get key found))

-- the same, below 2^32
abbrev pub small_in : List ℕ → Data → Option ℕ
small_in key found = number_in key found >>= λ number. if nat_lt (2 ^ 32 - 1) number then None else Some number

-- the text at a key
abbrev pub text_in : List ℕ → Data → Option (List ℕ)
text_in key found = option_and_then as_str (get key found)

-- ---- a row

-- the rule that has this name in reports
unfoldable pub rule_called : List ℕ → Option Rule
rule_called name = named_rule name >>= λ broken. if bytes_eq (rule_text_of broken) name then Some broken else None

-- the rule of a row
unfoldable pub rule_in : Data → Option Rule
rule_in found = text_in (codes "rule") found >>= rule_called

-- the monitor of an X1; a row of another rule has none
unfoldable pub monitor_in : Rule → Data → Option (Option ℕ)
monitor_in broken found = if rule_number broken == rule_number rule.X1 then (small_in (codes "monitor") found >>= λ monitor. Some (Some monitor))
    else (if is_some (get (codes "monitor") found) then None else Some None)

-- the row that an object is, of this link
unfoldable pub row_with : Data → ℕ → Option ReportRow
row_with found link = do
  fragment ← small_in (codes "fragment") found
  line ← small_in (codes "line") found
  broken ← rule_in found
  monitor ← monitor_in broken found
  Some (record { link = link; fragment = fragment; line = line; rule = broken; monitor = monitor })

-- the number of the link that a word names
abbrev pub link_called : Topology → List ℕ → Option ℕ
link_called topo word = name_at word >>= number_of_name topo.links

-- the row that an object is, with its cycle
unfoldable pub row_in : Topology → Data → Option (ℕ × ReportRow)
row_in topo found = do
  cycle ← number_in (codes "cycle") found
  name ← text_in (codes "link") found
  link ← link_called topo name
  row ← row_with found link
  Some (cycle, row)

-- The row is what its line tells as JSON.
abbrev pub IsOfItsLine : Topology → JsonRow → Type 0
IsOfItsLine topo row = (data_of row.text.now >>= row_in topo) ≡ Some (row.cycle, row.told)

-- ---- reports

-- The number of its link.
abbrev pub json_link : JsonRow → ℕ
json_link row = row.told.link

abbrev pub json_rows : JsonReport → List JsonRow
json_rows report = report.rows.items

-- The line of a row, as it stood.
abbrev pub line_in : JsonRow → List ℕ
line_in row = row.text.now

-- The pieces of a text of these lines, of which the last is after the last newline.
abbrev pub pieces : List JsonRow → List (List ℕ)
pieces rows = map line_in rows ++ [] ∷ []

-- The texts are the lines of the reports, one of each.
abbrev pub AreJson : {Z : Type 0} → List (Vec ℕ Z) → List JsonReport → Type 0
AreJson texts reports = map (λ text. lines_of text.items) texts ≡ map (λ report. pieces (json_rows report)) reports

-- The lines of rows, each with its newline.
abbrev pub lines_text : List JsonRow → List ℕ
lines_text rows = flat_map (λ row. ended (line_in row)) rows

-- All rows are what their lines tell.
abbrev pub AreOfTheirLines : Topology → List JsonReport → Type 0
AreOfTheirLines topo reports = All (IsOfItsLine topo) (flat_map json_rows reports)

-- Each of the texts is the lines of rows that they tell, and the last text is all these lines in the order of their links.
pub record MergesJson {Z : Type 0} (topo : Topology) (texts : List (Vec ℕ Z)) (made : List ℕ) : Type 0 where
  pub reports : List JsonReport
  pub read : AreJson texts reports
  pub told : AreOfTheirLines topo reports
  pub merged : List JsonRow
  pub merge : IsByLink json_link (flat_map json_rows reports) merged
  pub made_is : made ≡ lines_text merged

-- ---- reports of either kind

-- A text is JSON by its first byte, and without one.
abbrev pub is_json : List ℕ → Bool
is_json [] = true
is_json (b ∷ bytes) = b == 123

-- One of the texts is JSON.
abbrev pub has_json : {Z : Type 0} → List (Vec ℕ Z) → Bool
has_json texts = list_any (λ text. is_json text.items) texts

-- The last text is the merge of texts of one kind.
abbrev pub IsMergeAs : {Z : Type 0} → Bool → Topology → List (Vec ℕ Z) → List ℕ → Type 0
IsMergeAs true topo texts made = MergesJson topo texts made
IsMergeAs false topo texts made = Merges topo texts made

-- The last text is the merge of texts, of the kind that they have.
abbrev pub AreMerged : {Z : Type 0} → Topology → List (Vec ℕ Z) → List ℕ → Type 0
AreMerged topo texts made = IsMergeAs (has_json texts) topo texts made
