use Rattle.tl_definitions.proofs.TableLaws.{one_entry}
use Rattle.tl_definitions.proofs.laws.one_entry.Goals as goal

pub returns : goal.returns
returns c = one_entry
