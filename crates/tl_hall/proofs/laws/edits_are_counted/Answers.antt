use Rattle.tl_hall.proofs.Tellings.{edits_are_counted}
use Rattle.tl_hall.proofs.laws.edits_are_counted.Goals as goal

pub returns : goal.returns
returns c = edits_are_counted
