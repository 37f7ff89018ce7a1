use Rattle.tl_client_rules.proofs.LinkLaws.{found_rules_are_broken}
use Rattle.tl_client_rules.proofs.client_laws.found_rules_are_broken.Goals as goal

pub returns : goal.returns
returns c = found_rules_are_broken
