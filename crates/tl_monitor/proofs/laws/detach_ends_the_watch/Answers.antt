use Rattle.tl_monitor.proofs.WatchLemmas.{detached_watches}
use Rattle.tl_monitor.proofs.laws.detach_ends_the_watch.Goals as goal

pub returns : goal.returns
returns c b m n edit are = detached_watches b m n edit are
