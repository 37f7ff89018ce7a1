use Rattle.tl_hall.proofs.Tellings.{attaches_are_counted}
use Rattle.tl_hall.proofs.laws.attaches_are_counted.Goals as goal

pub returns : goal.returns
returns c = attaches_are_counted
