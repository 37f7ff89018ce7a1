use Rattle.tl_desk.proofs.PlayAlikePlays.{replies_fix_the_desk}
use Rattle.tl_desk.proofs.laws.replies_fix_the_desk.Goals as goal

pub returns : goal.returns
returns g c = replies_fix_the_desk _
