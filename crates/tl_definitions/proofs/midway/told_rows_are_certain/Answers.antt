use Rattle.tl_definitions.proofs.ToldLaws.{told_rows_are_certain}
use Rattle.tl_definitions.proofs.midway.told_rows_are_certain.Goals as goal

pub returns : goal.returns
returns c = told_rows_are_certain
