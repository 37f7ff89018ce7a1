use Rattle.tl_monitor.proofs.WatchLemmas.{no_place}
use Rattle.tl_monitor.proofs.laws.unknown_number_has_no_place.Goals as goal

pub returns : goal.returns
returns c b m watch out = no_place b m watch out
