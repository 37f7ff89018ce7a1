use Rattle.tl_definitions.proofs.PositionLaws.{lines_are_indexes}
use Rattle.tl_definitions.proofs.positions.lines_are_indexes.Goals as goal

pub returns : goal.returns
returns c = lines_are_indexes
