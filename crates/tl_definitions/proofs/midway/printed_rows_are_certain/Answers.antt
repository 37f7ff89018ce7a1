use Rattle.tl_definitions.proofs.MidwayLaws.{printed_rows_are_certain}
use Rattle.tl_definitions.proofs.midway.printed_rows_are_certain.Goals as goal

pub returns : goal.returns
returns c = printed_rows_are_certain
