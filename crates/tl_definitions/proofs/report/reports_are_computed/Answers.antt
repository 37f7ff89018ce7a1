use Rattle.tl_definitions.proofs.ReportLaws.{reports_are_computed}
use Rattle.tl_definitions.proofs.report.reports_are_computed.Goals as goal

pub returns : goal.returns
returns c = reports_are_computed
