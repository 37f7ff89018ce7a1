use Rattle.tl_definitions.proofs.PositionLaws.{ranges_rise}
use Rattle.tl_definitions.proofs.positions.ranges_rise.Goals as goal

pub returns : goal.returns
returns c = ranges_rise
