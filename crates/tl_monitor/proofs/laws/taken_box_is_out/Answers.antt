use Rattle.tl_monitor.proofs.DepartureLemmas.{taken_is_out}
use Rattle.tl_monitor.proofs.laws.taken_box_is_out.Goals as goal

pub returns : goal.returns
returns c b m ticket held here = taken_is_out b m ticket held here
