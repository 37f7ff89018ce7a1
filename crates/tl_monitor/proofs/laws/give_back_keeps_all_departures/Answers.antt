use Rattle.tl_monitor.proofs.DepartureLemmas.{given_back_departures}
use Rattle.tl_monitor.proofs.laws.give_back_keeps_all_departures.Goals as goal

pub returns : goal.returns
returns c b m n are = given_back_departures b m n are
