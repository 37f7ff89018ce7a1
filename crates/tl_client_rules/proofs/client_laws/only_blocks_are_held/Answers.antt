use Rattle.tl_client_rules.proofs.BlockLaws.{only_blocks_are_held}
use Rattle.tl_client_rules.proofs.client_laws.only_blocks_are_held.Goals as goal

pub returns : goal.returns
returns c = only_blocks_are_held
