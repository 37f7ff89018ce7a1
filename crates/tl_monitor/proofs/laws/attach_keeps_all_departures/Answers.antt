use Rattle.tl_monitor.proofs.DepartureLemmas.{attached_departures}
use Rattle.tl_monitor.proofs.laws.attach_keeps_all_departures.Goals as goal

pub returns : goal.returns
returns c b m n held none = attached_departures b m n held none
