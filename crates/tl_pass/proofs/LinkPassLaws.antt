-- Links without caches that come one after the other.
use Rattle.std.proofs.Common.{◌≡◌, ℕ, ◌+◌, ◌<◌, inl, inr, List, [], ◌++◌, append-nil, Option, Some, None, get_or, sym, subst, arith}
use Rattle.std.specs.Prelude.{◌↔◌}
use Rattle.std.specs.Io.Iter.{u64_saturate}
use Rattle.std.specs.List.{Contains}
use Rattle.std.specs.List.Sorted.{IsStrictlySortedBy}
use Rattle.std.proofs.lemmas.List.Elements.{Contains-get_or}
use Rattle.tl_topology.specs.Topology.{Topology}
use Rattle.tl_beats.specs.declared.Row.{Row}
use Rattle.tl_definitions.specs.Positions.{Recorded}
use Rattle.tl_definitions.specs.Report.{FindsIn, row_order}
use Rattle.tl_definitions.proofs.Lists.{contains_none}
use Rattle.tl_definitions.proofs.ReportLaws.{found_rows_are_the_report}
use Rattle.tl_capture.specs.Present.{IsPresent}
use Rattle.tl_check.specs.Captured.{captures_with, watch_captures}
use Rattle.tl_check.specs.Found.{AreFound}
use Rattle.tl_check.proofs.CaptureLaws.{one_place, row_linked}
use Rattle.tl_midway.specs.Report.{IsMidwayReport}
use Rattle.tl_midway.specs.declared.midway.Midway.{Midway}
use Rattle.tl_midway.proofs.MidwayReportLaws as middle
use Rattle.tl_pass.specs.LinkPass.{AreOn}
use Rattle.tl_pass.specs.Parts.{HasNoCaches, HasJudged}
use Rattle.tl_pass.specs.Reports.{bare_inputs, AreReportOf, IsFound, IsFoundIn, IsReportIn}
use Rattle.tl_pass.specs.declared.pass.Found.{Found}
use Rattle.tl_pass.proofs.JoinLaws.{judged_both}

-- Nothing is flagged without monitors.
none_flagged : (topo : Topology) (fs : List Recorded) → AreFound (watch_captures topo fs []) []
none_flagged topo fs row = ((λ h. absurd (contains_none row h)), (λ found. absurd (contains_none found.0 found.1)))

-- What is found of fragments, in the order of reports, is their report.
pub sorted_report : (midway : Option Midway) (topo : Topology) (fs : List Recorded) (rows sorted : List Row) → IsPresent fs → ((row : Row) → Contains rows row ↔ IsFound midway topo fs row)
    → IsStrictlySortedBy row_order sorted → ((row : Row) → Contains sorted row ↔ Contains rows row) → AreReportOf midway topo fs sorted
sorted_report None topo fs rows sorted is found rises same = record {
  present = is;
  report = found_rows_are_the_report (captures_with topo fs [] []) sorted (one_place topo fs is [] []) rises members;
  links = λ k d below. row_linked topo fs is [] [] (get_or sorted k d) ((members (get_or sorted k d)).0 (Contains-get_or sorted k d below));
}
  where
    members : (row : Row) → Contains sorted row ↔ FindsIn (captures_with topo fs [] []) row
    members row = ((λ h. (found row).0 ((same row).0 h)), (λ at. (same row).1 ((found row).1 at)))
sorted_report (Some law) topo fs rows sorted is found rises same =
    let report : IsMidwayReport law (bare_inputs topo fs) sorted =
    middle.sorted_report law (bare_inputs topo fs) is rows [] rows sorted found (none_flagged topo fs) (sym (append-nil rows)) rises same in
    record { present = is; report = report; links = middle.report_linked law (bare_inputs topo fs) is sorted report }

-- The rows of a report are what is found.
pub report_members : (midway : Option Midway) (topo : Topology) (fs : List Recorded) (rows : List Row) → AreReportOf midway topo fs rows → (row : Row) → Contains rows row ↔ IsFound midway topo fs row
report_members None topo fs rows are row = are.report.members row
report_members (Some law) topo fs rows are row = (
  (λ h. elim ((are.report.members row).0 h) [ inl printed ↦ printed | inr flagged ↦ absurd (contains_none flagged.0 flagged.1) ]),
  (λ found. (are.report.members row).1 (inl found)),
)

-- Of a whole run no lead-ins are counted.
pub of_whole_run : (midway : Option Midway) (topo : Topology) (fs : List Recorded) → midway ≡ None → (found : Found) → AreReportOf None topo fs found.rows.items → IsReportIn midway topo fs found
of_whole_run midway topo fs none found report = subst (λ w. IsReportIn w topo fs found) (sym none) (record { rows = report; lead_ins = tt })

-- So is what is found of links.
pub judged_report : (midway : Option Midway) (topo : Topology) (next : ℕ) (fs : List Recorded) (rows : List Row) (found : Found) → HasJudged midway topo next fs rows found.lead_ins
    → IsStrictlySortedBy row_order found.rows.items → ((row : Row) → Contains found.rows.items row ↔ Contains rows row) → IsReportIn midway topo fs found
judged_report midway topo next fs rows found had rises same = record {
  rows = sorted_report midway topo fs rows found.rows.items had.present had.found.members rises same;
  lead_ins = had.found.counted;
}

-- What is found of the link that comes now is found besides.
pub judged_more : (midway : Option Midway) (topo : Topology) (link next : ℕ) (done present : List Recorded) (rows more : List Row) (a b count : ℕ) → HasNoCaches topo → HasJudged midway topo link done rows a
    → IsPresent present → AreOn link present → IsFoundIn midway topo present more b → count ≡ u64_saturate (a + b) → link < next → HasJudged midway topo next (done ++ present) (rows ++ more) count
judged_more midway topo link next done present rows more a b count plain judged kept own found is less =
    judged_both midway topo link next done present rows more a b (inl plain) judged kept (λ f h. let same : f.link ≡ link = own f h in omega arith)
    (λ f h. let same : f.link ≡ link = own f h in omega (arith, less, same)) (omega (arith, less)) found count is
