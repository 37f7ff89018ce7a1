use Rattle.tl_definitions.proofs.ReportLaws.{one_report}
use Rattle.tl_definitions.proofs.report.one_report.Goals as goal

pub returns : goal.returns
returns c = one_report
