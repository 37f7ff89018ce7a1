use Rattle.std.proofs.Common.{◌+◌, ◌++◌, length, ap, subst, ◌∙◌}
use Rattle.tl_capture.specs.Present.{IsPresent}
use Rattle.tl_check.specs.Captured.{areas_at}
use Rattle.tl_midway.specs.Counts.{managers_counted}
use Rattle.tl_midway.specs.Counted.{HasCounts, asked_of}
use Rattle.tl_midway.specs.Report.{ArePrinted}
use Rattle.tl_midway.proofs.CountsLaws.{all_counted}
use Rattle.tl_midway.proofs.MidwayReportLaws.{report_of, report_linked}
use Rattle.tl_midway.proofs.counting.counted_report.Goals as goal

pub returns-clause-report : goal.returns-clause-report
returns-clause-report c =
    report_of c.args.law c.args.inputs.now c.topo-topo.result.now c.present-present.result.now c.regions.result.now c.deref.result.now c.topo-topo.ensures c.present-present.ensures c.regions.ensures.exact
    (c.deref.ensures.value ∙ c.in_ok-watches.ensures.exact) (subst IsPresent c.present-present.ensures c.is_empty.ensures.kept) c.in_ok-rows.rows.items c.in_ok-flagged.flagged.items
    c.extend_from_slice.new.self.items c.sort_rows.result.items
    (subst (λ law. ArePrinted law c.topo-topo.result.now (areas_at c.regions.result.now) c.present-present.result.now (length c.topo-topo.result.now.managers) c.in_ok-rows.rows.items)
    c.in_ok-counts.ensures.law c.in_ok-rows.ensures.rows) c.in_ok-flagged.ensures
    (c.in_ok-extend_from_slice.ensures.items ∙ ap (λ more. c.in_ok-rows.rows.items ++ more) c.deref-2.ensures.value) c.sort_rows.ensures.rises c.sort_rows.ensures.members

pub returns-clause-links : goal.returns-clause-links
returns-clause-links c =
    report_linked c.args.law c.args.inputs.now (subst IsPresent c.present-present.ensures c.is_empty.ensures.kept) c.sort_rows.result.items (returns-clause-report c)

pub returns-clause-counts : goal.returns-clause-counts
returns-clause-counts c =
    all_counted c.args.inputs.now c.counted_managers.new.counts c.in_ok-counts.counts.law
    (subst (HasCounts c.counted_managers.new.counts)
    (λ i asked. 0 + managers_counted (asked_of asked) c.in_ok-counts.counts.law (c.topo-topo.ensures i) (areas_at (c.regions.ensures.exact i)) (c.present-present.ensures i) (length (c.topo-topo.ensures i).managers))
    (c.in_ok-rows.ensures.counts (λ asked. 0) c.in_ok-counts.ensures.none)) c.in_ok-rows.ensures.law

pub returns-clause-law : goal.returns-clause-law
returns-clause-law c = c.in_ok-rows.ensures.law ∙ c.in_ok-counts.ensures.law

pub returns-clause-by_rule : goal.returns-clause-by_rule
returns-clause-by_rule c = c.in_ok-rows.ensures.by_rule ∙ c.in_ok-counts.ensures.by_rule
