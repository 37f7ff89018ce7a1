use Rattle.tl_desk.proofs.AlikeSteps.{calls_keep_desks_alike}
use Rattle.tl_desk.proofs.laws.calls_keep_desks_alike.Goals as goal

pub returns : goal.returns
returns c = calls_keep_desks_alike
