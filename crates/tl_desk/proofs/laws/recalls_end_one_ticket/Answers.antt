use Rattle.tl_desk.proofs.RecallLemmas.{recalls_end_one}
use Rattle.tl_desk.proofs.laws.recalls_end_one_ticket.Goals as goal

pub returns : goal.returns
returns c = recalls_end_one
