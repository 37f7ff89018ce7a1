use Rattle.tl_client_rules.proofs.LinkLaws.{heads_are_stood_for}
use Rattle.tl_client_rules.proofs.client_laws.heads_are_stood_for.Goals as goal

pub returns : goal.returns
returns c = heads_are_stood_for
