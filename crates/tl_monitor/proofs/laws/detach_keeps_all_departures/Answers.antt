use Rattle.tl_monitor.proofs.DepartureLemmas.{detached_departures}
use Rattle.tl_monitor.proofs.laws.detach_keeps_all_departures.Goals as goal

pub returns : goal.returns
returns c b m n edit are = detached_departures b m n edit are
