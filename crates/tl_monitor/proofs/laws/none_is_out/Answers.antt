use Rattle.tl_monitor.proofs.OutLemmas.{none_out}
use Rattle.tl_monitor.proofs.laws.none_is_out.Goals as goal

pub returns : goal.returns
returns c b m none = none_out m b.slots none
