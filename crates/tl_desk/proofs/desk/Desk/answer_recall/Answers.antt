use Rattle.tl_desk.proofs.PlayLemmas.{out_recalled}
use Rattle.tl_desk.proofs.desk.Desk.answer_recall.Goals as goal

pub returns-clause-out : goal.returns-clause-out
returns-clause-out g c = λ places are. out_recalled places c.args.ticket c.args.self.now c.recall.new.self c.recall.result c.recall.ensures.step c.recall.ensures.rest are
