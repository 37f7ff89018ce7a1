use Rattle.tl_definitions.proofs.MidwayLaws.{printed_rows_are_of_the_plain_report}
use Rattle.tl_definitions.proofs.midway.printed_rows_are_of_the_plain_report.Goals as goal

pub returns : goal.returns
returns c = printed_rows_are_of_the_plain_report
