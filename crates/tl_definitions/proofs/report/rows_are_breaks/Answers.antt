use Rattle.tl_definitions.proofs.ReportLaws.{rows_are_breaks}
use Rattle.tl_definitions.proofs.report.rows_are_breaks.Goals as goal

pub returns : goal.returns
returns c = rows_are_breaks
