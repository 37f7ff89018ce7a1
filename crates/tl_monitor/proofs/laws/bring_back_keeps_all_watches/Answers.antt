use Rattle.tl_monitor.proofs.WatchLemmas.{brought_back_watches}
use Rattle.tl_monitor.proofs.laws.bring_back_keeps_all_watches.Goals as goal

pub returns : goal.returns
returns c b m n held away are out taken = brought_back_watches b m n held away are out taken
