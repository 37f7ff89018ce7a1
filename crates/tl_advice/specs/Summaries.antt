-- The text of a summary.
use Rattle.std.specs.Prelude.{ℕ, ◌≡◌, ◌-◌, ◌==◌, Bool, List, [], ◌∷◌, codes, Option, Some, None, Result, IfOk, String, string_bytes, if◌then◌else◌, length, take}
use Rattle.std.specs.Fmt.{decimal}
use Rattle.std.specs.List.{flat_map, list_all}
use Rattle.tl_tables.specs.Rules.{rule_text_of}
use Rattle.tl_topology.specs.Topology.{Topology}
use Rattle.tl_beats.specs.declared.Row.{Row}
use Rattle.tl_definitions.specs.Positions.{Recorded}
use Rattle.tl_tables.specs.Rules.{all_rules}
use Rattle.tl_rows.specs.declared.counts.OpenCounts.{OpenCounts}
use Rattle.tl_edits.specs.Edits.{AnEdit}
use Rattle.tl_edits.specs.Log.{inputs_after}
use Rattle.tl_check.specs.Output.{ReportData}
use Rattle.tl_rows.specs.Words.{joined}
use Rattle.tl_show.specs.Lines.{newline}
use Rattle.tl_advice.specs.Tallies.{AreLinked, AreTallied}
use Rattle.tl_advice.specs.LinkCounts.{AreCounted}
use Rattle.tl_advice.specs.declared.tallies.Tally.{Tally}
use Rattle.tl_advice.specs.declared.links.LinkCount.{LinkCount}

-- How many are open of what this text names, if any are.
unfoldable pub open_part_of : List ℕ → ℕ → List ℕ
open_part_of name count = if count == 0 then [] else joined (codes ", " ∷ name ∷ codes " " ∷ decimal count ∷ [])

unfoldable pub asked_of : OpenCounts → List ℕ
asked_of counts = joined (open_part_of (codes "requests without a reply") counts.requests ∷ open_part_of (codes "Releases without a ReleaseAck") counts.releases ∷ open_part_of (codes "Probes without a ProbeAck") counts.probes ∷ [])

unfoldable pub given_of : OpenCounts → List ℕ
given_of counts = joined (open_part_of (codes "Grants without a GrantAck") counts.grants ∷ open_part_of (codes "bursts without their last beat") counts.bursts ∷ [])

-- The line of a link.
unfoldable pub link_line_of : LinkCount → List ℕ
link_line_of own = joined (codes "  " ∷ own.name ∷ codes ": beats " ∷ decimal own.beats ∷ asked_of own.still_open ∷ given_of own.still_open ∷ newline ∷ [])

-- No link has a beat.
abbrev pub are_empty : List LinkCount → Bool
are_empty counts = list_all (λ own. own.beats == 0) counts

unfoldable pub empty_line : List ℕ
empty_line = joined (codes "  nothing was checked" ∷ newline ∷ [])

unfoldable pub links_text_of : List LinkCount → List ℕ
links_text_of counts = if are_empty counts then empty_line else flat_map link_line_of counts

-- Where the first row of a rule stands.
unfoldable pub place_of : Tally → List ℕ
place_of tally = joined (tally.name ∷ codes " fragment " ∷ decimal tally.first.fragment ∷ codes " line " ∷ decimal tally.first.line ∷ [])

-- The line of a rule.
unfoldable pub tally_line_of : Tally → List ℕ
tally_line_of tally =
    joined (codes "  " ∷ rule_text_of tally.rule ∷ codes ": rows " ∷ decimal tally.count ∷ codes ", first at cycle " ∷ decimal tally.first.cycle ∷ codes ": " ∷ place_of tally ∷ newline ∷ [])

unfoldable pub rowless_line : List ℕ
rowless_line = joined (codes "  no rows" ∷ newline ∷ [])

unfoldable pub rules_text_of : List Tally → List ℕ
rules_text_of tallies = if length tallies == 0 then rowless_line else flat_map tally_line_of tallies

-- The lines of links and of rules.
unfoldable pub body_of : List LinkCount → List Tally → List ℕ
body_of counts tallies = joined (links_text_of counts ∷ rules_text_of tallies ∷ [])

-- They are of the beats of these fragments, and of these rows.
unfoldable pub IsBody : Topology → List Recorded → List Row → List ℕ → Type 0
IsBody topo fragments rows text = (counts : List LinkCount) × (tallies : List Tally) × AreCounted topo fragments counts × AreTallied topo all_rules rows tallies × (text ≡ body_of counts tallies)

unfoldable pub heading : List ℕ
heading = joined (codes "summary" ∷ newline ∷ [])

-- The summary of rows.
abbrev pub IsSummary : Topology → List Recorded → List Row → List ℕ → Type 0
IsSummary topo fragments rows text = (body : List ℕ) × IsBody topo fragments rows body × (text ≡ joined (heading ∷ body ∷ []))

-- ---- runs

-- How many edits were accepted, and how many of those that were asked for were not.
unfoldable pub edits_line_of : ℕ → ℕ → List ℕ
edits_line_of accepted asked = joined (codes "  edits accepted " ∷ decimal accepted ∷ codes ", refused " ∷ decimal (asked - accepted) ∷ newline ∷ [])

unfoldable pub report_line_of : ReportData → List ℕ
report_line_of report = joined (codes "  report " ∷ decimal report.version ∷ codes " edit " ∷ decimal report.edit ∷ newline ∷ [])

unfoldable pub unreported_line : List ℕ
unreported_line = joined (codes "  no report was published" ∷ newline ∷ [])

-- The summary of a report after the last edits.
abbrev pub IsReported : Topology → List Recorded → ReportData → List ℕ → List ℕ → Type 0
IsReported topo fragments report last text = (body : List ℕ) × IsBody topo fragments report.rows body × (text ≡ joined (heading ∷ report_line_of report ∷ body ∷ last ∷ []))

-- The same of a report of what the first of these edits leave.
abbrev pub IsReportedOf : Topology → List AnEdit → ReportData → List ℕ → List ℕ → Type 0
IsReportedOf topo edits report last text = IsReported topo (inputs_after topo (take report.edit edits)).fragments report last text

-- The topology has the links of the rows of the report, if there is one.
abbrev pub IsLinkedReport : Topology → Option ReportData → Type 0
IsLinkedReport topo None = Unit {0}
IsLinkedReport topo (Some report) = AreLinked topo report.rows

-- The summary of a run with these accepted edits, of so many that were asked for, whose last report is this one.
abbrev pub IsRunSummary : Topology → List AnEdit → ℕ → Option ReportData → List ℕ → Type 0
IsRunSummary topo edits asked None text = text ≡ joined (heading ∷ unreported_line ∷ edits_line_of (length edits) asked ∷ [])
IsRunSummary topo edits asked (Some report) text = IsReported topo (inputs_after topo (take report.edit edits)).fragments report (edits_line_of (length edits) asked) text

-- Where the topology has the links of its rows, this text is the summary of such a run.
abbrev pub SumsUpRun : {Z E : Type 0} → Topology → List AnEdit → ℕ → Option ReportData → Result (String Z) E → Type 0
SumsUpRun topo edits asked report made = IsLinkedReport topo report → IfOk made (λ text. IsRunSummary topo edits asked report (string_bytes text))
