use Rattle.tl_link_rules.proofs.StandLaws.{found_rules_are_broken}
use Rattle.tl_link_rules.proofs.laws.found_rules_are_broken.Goals as goal

pub returns : goal.returns
returns c = found_rules_are_broken
