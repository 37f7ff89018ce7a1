use Rattle.tl_hall.proofs.Tellings.{histories_tell}
use Rattle.tl_hall.proofs.laws.histories_tell.Goals as goal

pub returns : goal.returns
returns c = histories_tell
