use Rattle.tl_client_rules.proofs.LinkLaws.{permissions_need_their_link_alone}
use Rattle.tl_client_rules.proofs.client_laws.permissions_need_their_link_alone.Goals as goal

pub returns : goal.returns
returns c = permissions_need_their_link_alone
