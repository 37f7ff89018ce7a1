use Rattle.tl_desk.proofs.PlayAlikePlays.{plays_keep_desks_alike}
use Rattle.tl_desk.proofs.laws.plays_keep_desks_alike.Goals as goal

pub returns : goal.returns
returns g c = plays_keep_desks_alike _
