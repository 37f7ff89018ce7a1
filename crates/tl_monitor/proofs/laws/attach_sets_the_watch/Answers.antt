use Rattle.tl_monitor.proofs.WatchLemmas.{attached_watches}
use Rattle.tl_monitor.proofs.laws.attach_sets_the_watch.Goals as goal

pub returns : goal.returns
returns c b m n held = attached_watches b m n held
