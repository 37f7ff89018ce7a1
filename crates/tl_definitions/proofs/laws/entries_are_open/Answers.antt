use Rattle.tl_definitions.proofs.TableLaws.{entries_are_open}
use Rattle.tl_definitions.proofs.laws.entries_are_open.Goals as goal

pub returns : goal.returns
returns c = entries_are_open
