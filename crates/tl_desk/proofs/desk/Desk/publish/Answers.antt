use Rattle.std.proofs.Common.{◌≡◌, ◌+◌, ◌<◌, length, sym, ap, subst, ◌∙◌, rules}
use Rattle.tl_edits.specs.Log.{LogData}
use Rattle.tl_definitions.specs.Report.{IsReport}
use Rattle.tl_check.specs.Captured.{captures_after}
use Rattle.tl_check.specs.Output.{ReportData}
use Rattle.tl_desk.specs.Core.{Core, AreLinked, IsSound, standing, log_of, most_versions}
use Rattle.tl_desk.proofs.ReportLemmas.{published}
use Rattle.tl_desk.proofs.desk.Desk.publish.Goals as goal

pub invariant_of-self-2 : goal.invariant_of-self-2
invariant_of-self-2 g c =
    let old : Core = record { windows = c.self.inside.windows; boxes = c.self.inside.boxes; reports = c.self.inside.reports.items; tickets = c.self.inside.tickets } in
    let few : length old.reports < most_versions = search rules in
    let count : c.len-2.result ≡ length old.reports = search rules in
    let version : c.in_ok-report.report.version ≡ length old.reports + 1 = ap (λ (r : ReportData). r.version) c.in_ok-report.ensures ∙ ap (λ n. n + 1) count in
    let edit : c.in_ok-report.report.edit ≡ length (log_of old).edits = ap (λ (r : ReportData). r.edit) c.in_ok-report.ensures ∙ c.len-3.ensures.count ∙ ap (λ (l : LogData). length l.edits) c.log.ensures.exact ∙ ap (λ (s : Core). length (log_of s).edits) (sym c.self.view_is) in
    let rows : IsReport (captures_after (standing old)) c.in_ok-report.report.rows = subst (IsReport (captures_after (standing old))) (sym (ap (λ (r : ReportData). r.rows) c.in_ok-report.ensures)) (subst (λ (s : Core). IsReport (captures_after (standing s)) c.in_ok-rows.rows.items) (sym c.self.view_is) c.in_ok-rows.ensures.exact) in
    let linked : AreLinked (log_of old).topo c.in_ok-report.report.rows = subst (AreLinked (log_of old).topo) (sym (ap (λ (r : ReportData). r.rows) c.in_ok-report.ensures)) (subst (λ (s : Core). AreLinked (log_of s).topo c.in_ok-rows.rows.items) (sym c.self.view_is) c.in_ok-rows.ensures.links) in
    subst (λ rs. IsSound (record old { reports = rs })) (sym c.in_ok-push.ensures.items) (published old c.in_ok-report.report c.self.invariant version edit rows linked few)
