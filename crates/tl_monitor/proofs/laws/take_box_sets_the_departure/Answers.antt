use Rattle.tl_monitor.proofs.DepartureLemmas.{taken_departures}
use Rattle.tl_monitor.proofs.laws.take_box_sets_the_departure.Goals as goal

pub returns : goal.returns
returns c b m n ticket held here = taken_departures b m n ticket held here
