use Rattle.tl_pass.specs.Reports.{standing}
use Rattle.tl_pass.proofs.LinkPassLaws.{judged_report}
use Rattle.tl_pass.proofs.part.Whole.report.Goals as goal

pub returns : goal.returns
returns c midway topo fs had = (
  had.count,
  judged_report midway topo c.args.self.next (standing topo fs) c.args.self.rows.items (record { rows = c.sort_rows.result; lead_ins = c.args.self.lead_ins }) had.judged c.sort_rows.ensures.rises c.sort_rows.ensures.members,
)
