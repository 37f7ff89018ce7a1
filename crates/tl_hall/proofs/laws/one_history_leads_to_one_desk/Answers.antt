use Rattle.tl_hall.proofs.Desks.{one_history_leads_to_one_desk}
use Rattle.tl_hall.proofs.laws.one_history_leads_to_one_desk.Goals as goal

pub returns : goal.returns
returns c = one_history_leads_to_one_desk
