use Rattle.tl_monitor.proofs.WatchLemmas.{attached_and_back}
use Rattle.tl_monitor.proofs.laws.give_back_undoes_attach.Goals as goal

pub returns : goal.returns
returns c b m held none = attached_and_back b m held none
