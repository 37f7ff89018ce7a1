use Rattle.tl_client_rules.proofs.LinkLaws.{later_beats_are_stood_for}
use Rattle.tl_client_rules.proofs.client_laws.later_beats_are_stood_for.Goals as goal

pub returns : goal.returns
returns c = later_beats_are_stood_for
