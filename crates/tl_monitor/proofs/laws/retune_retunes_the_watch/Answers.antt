use Rattle.tl_monitor.proofs.WatchLemmas.{retuned_watches}
use Rattle.tl_monitor.proofs.laws.retune_retunes_the_watch.Goals as goal

pub returns : goal.returns
returns c b m n limit = retuned_watches b m n limit
