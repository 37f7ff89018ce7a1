use Rattle.tl_definitions.proofs.PositionLaws.{positions_are_ordered}
use Rattle.tl_definitions.proofs.positions.positions_are_ordered.Goals as goal

pub returns : goal.returns
returns c = positions_are_ordered
