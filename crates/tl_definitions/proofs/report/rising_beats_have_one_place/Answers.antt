use Rattle.tl_definitions.proofs.RisingLaws.{rising_beats_have_one_place}
use Rattle.tl_definitions.proofs.report.rising_beats_have_one_place.Goals as goal

pub returns : goal.returns
returns c = rising_beats_have_one_place
