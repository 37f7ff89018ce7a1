use Rattle.tl_definitions.proofs.MidwayRowLaws.{key_rows}
use Rattle.tl_definitions.proofs.midway_rows.key_rows.Goals as goal

pub returns : goal.returns
returns c = key_rows
