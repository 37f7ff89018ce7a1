use Rattle.tl_hall.proofs.Tellings.{versions_are_counted}
use Rattle.tl_hall.proofs.laws.versions_are_counted.Goals as goal

pub returns : goal.returns
returns c = versions_are_counted
