use Rattle.tl_link_rules.proofs.StandLaws.{later_beats_are_stood_for}
use Rattle.tl_link_rules.proofs.laws.later_beats_are_stood_for.Goals as goal

pub returns : goal.returns
returns c = later_beats_are_stood_for
