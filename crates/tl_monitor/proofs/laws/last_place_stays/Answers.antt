use Rattle.tl_monitor.proofs.WatchLemmas.{placed_twice}
use Rattle.tl_monitor.proofs.laws.last_place_stays.Goals as goal

pub returns : goal.returns
returns c b m p q = placed_twice b m p q
