use Rattle.tl_hall.proofs.Desks.{checked_desks_are_ready}
use Rattle.tl_hall.proofs.laws.checked_desks_are_ready.Goals as goal

pub returns : goal.returns
returns c = checked_desks_are_ready
