use Rattle.tl_monitor.proofs.WatchLemmas.{put_back_watches}
use Rattle.tl_monitor.proofs.laws.put_here_keeps_all_watches.Goals as goal

pub returns : goal.returns
returns c b m n ticket held out = put_back_watches b m n ticket held out
