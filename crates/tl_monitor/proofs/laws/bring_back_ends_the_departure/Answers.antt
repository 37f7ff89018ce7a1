use Rattle.tl_monitor.proofs.DepartureLemmas.{brought_back_departures}
use Rattle.tl_monitor.proofs.laws.bring_back_ends_the_departure.Goals as goal

pub returns : goal.returns
returns c b m n held away are out = brought_back_departures b m n held away are out
