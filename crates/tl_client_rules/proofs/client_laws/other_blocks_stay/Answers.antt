use Rattle.tl_client_rules.proofs.ClaimLaws.{other_blocks_stay}
use Rattle.tl_client_rules.proofs.client_laws.other_blocks_stay.Goals as goal

pub returns : goal.returns
returns c = other_blocks_stay
