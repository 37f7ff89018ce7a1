use Rattle.tl_monitor.proofs.WatchLemmas.{given_back_watches}
use Rattle.tl_monitor.proofs.laws.give_back_ends_the_watch.Goals as goal

pub returns : goal.returns
returns c b m n held are there = given_back_watches b m n held are there
