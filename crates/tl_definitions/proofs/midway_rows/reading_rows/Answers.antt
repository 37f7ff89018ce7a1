use Rattle.tl_definitions.proofs.MidwayRowLaws.{reading_rows}
use Rattle.tl_definitions.proofs.midway_rows.reading_rows.Goals as goal

pub returns : goal.returns
returns c = reading_rows
