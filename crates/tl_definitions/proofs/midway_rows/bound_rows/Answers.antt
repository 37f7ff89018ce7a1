use Rattle.tl_definitions.proofs.MidwayRowLaws.{bound_rows}
use Rattle.tl_definitions.proofs.midway_rows.bound_rows.Goals as goal

pub returns : goal.returns
returns c = bound_rows
