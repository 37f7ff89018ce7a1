use Rattle.tl_definitions.proofs.TableLaws.{counts_are_of_open}
use Rattle.tl_definitions.proofs.laws.counts_are_of_open.Goals as goal

pub returns : goal.returns
returns c = counts_are_of_open
