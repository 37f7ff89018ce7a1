use Rattle.tl_rows.proofs.TellingLaws.{broken_rows_are_told}
use Rattle.tl_rows.proofs.laws.broken_rows_are_told.Goals as goal

pub returns : goal.returns
returns c = broken_rows_are_told
