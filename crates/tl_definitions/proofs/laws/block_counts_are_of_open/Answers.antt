use Rattle.tl_definitions.proofs.TableLaws.{block_counts_are_of_open}
use Rattle.tl_definitions.proofs.laws.block_counts_are_of_open.Goals as goal

pub returns : goal.returns
returns c = block_counts_are_of_open
