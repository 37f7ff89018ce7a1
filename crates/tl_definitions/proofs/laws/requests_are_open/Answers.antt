use Rattle.tl_definitions.proofs.TableLaws.{requests_are_open}
use Rattle.tl_definitions.proofs.laws.requests_are_open.Goals as goal

pub returns : goal.returns
returns c = requests_are_open
