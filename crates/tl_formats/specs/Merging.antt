-- Reports as their texts tell them, and what merging makes of those of different managers.
use Rattle.std.specs.Prelude.{ℕ, ◌≡◌, ◌==◌, ◌<◌, List, Vec, filter, length, map}
use Rattle.std.specs.List.{All, flat_map, sum_by}
use Rattle.std.specs.List.Sorted.{IsNonDecreasingBy}
use Rattle.tl_tables.specs.declared.Chan.TheVariants as chan
use Rattle.tl_topology.specs.Topology.{Topology}
use Rattle.tl_beats.specs.declared.Row.{Row}
use Rattle.tl_check.specs.Once.{text_once}
use Rattle.tl_formats.specs.declared.report_reading.ReportText.{ReportText}
use Rattle.tl_formats.specs.declared.report_row.ReportRow.{ReportRow}

-- A row with this line, of a beat of which no more is known.
abbrev pub as_row : ReportRow → Row
as_row row = record { link = row.link; cycle = 0; chan = chan.A; rule = row.rule; monitor = row.monitor; fragment = row.fragment; line = row.line }

-- The number of its link.
abbrev pub link_in : ReportRow → ℕ
link_in row = row.link

abbrev pub rows_in : ReportText → List ReportRow
rows_in report = report.rows.items

abbrev pub edits_in : ReportText → ℕ
edits_in report = report.edits

-- The text of a report, version 1.
abbrev pub text_of : Topology → ReportText → List ℕ
text_of topo report = text_once topo report.edits (map as_row report.rows.items)

-- All rows are of links of the topology.
abbrev pub AreOnLinks : Topology → List ReportText → Type 0
AreOnLinks topo reports = All (λ row. link_in row < length topo.links) (flat_map rows_in reports)

-- The same rows in the order of their links, those of one link as they stood. There is one such list.
pub record IsByLink {X : Type 0} (of : X → ℕ) (rows sorted : List X) : Type 0 where
  pub rises : IsNonDecreasingBy of sorted
  pub same : (link : ℕ) → filter (λ row. of row == link) sorted ≡ filter (λ row. of row == link) rows

-- The rows of reports by link, and as many edits as they have together.
pub record IsMerge (reports : List ReportText) (merged : ReportText) : Type 0 where
  pub rows : IsByLink link_in (flat_map rows_in reports) merged.rows.items
  pub edits : merged.edits ≡ sum_by edits_in reports

-- The texts are those of the reports, one of each.
abbrev pub AreRead : {Z : Type 0} → Topology → List (Vec ℕ Z) → List ReportText → Type 0
AreRead topo texts reports = map (λ text. text.items) texts ≡ map (text_of topo) reports

-- Each of the texts is that of a report, and the last text is that of their merge.
pub record Merges {Z : Type 0} (topo : Topology) (texts : List (Vec ℕ Z)) (made : List ℕ) : Type 0 where
  pub reports : List ReportText
  pub read : AreRead topo texts reports
  pub merged : ReportText
  pub merge : IsMerge reports merged
  pub made_is : made ≡ text_of topo merged
