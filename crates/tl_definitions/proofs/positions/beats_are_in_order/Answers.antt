use Rattle.tl_definitions.proofs.PositionLaws.{beats_are_in_order}
use Rattle.tl_definitions.proofs.positions.beats_are_in_order.Goals as goal

pub returns : goal.returns
returns c = beats_are_in_order
