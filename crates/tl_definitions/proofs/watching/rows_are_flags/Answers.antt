use Rattle.tl_definitions.proofs.WatchLaws.{rows_are_flags}
use Rattle.tl_definitions.proofs.watching.rows_are_flags.Goals as goal

pub returns : goal.returns
returns c = rows_are_flags
