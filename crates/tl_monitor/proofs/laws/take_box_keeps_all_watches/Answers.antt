use Rattle.tl_monitor.proofs.WatchLemmas.{taken_watches}
use Rattle.tl_monitor.proofs.laws.take_box_keeps_all_watches.Goals as goal

pub returns : goal.returns
returns c b m n ticket = taken_watches b m n ticket
