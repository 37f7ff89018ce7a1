use Rattle.tl_definitions.proofs.PositionLaws.{beats_are_of_fragments}
use Rattle.tl_definitions.proofs.positions.beats_are_of_fragments.Goals as goal

pub returns : goal.returns
returns c = beats_are_of_fragments
