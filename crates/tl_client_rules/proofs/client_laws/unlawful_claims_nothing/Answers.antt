use Rattle.tl_client_rules.proofs.ClaimLaws.{unlawful_claims_nothing}
use Rattle.tl_client_rules.proofs.client_laws.unlawful_claims_nothing.Goals as goal

pub returns : goal.returns
returns c = unlawful_claims_nothing
