use Rattle.tl_monitor.proofs.DepartureLemmas.{retuned_departures}
use Rattle.tl_monitor.proofs.laws.retune_keeps_all_departures.Goals as goal

pub returns : goal.returns
returns c b m n limit = retuned_departures b m n limit
