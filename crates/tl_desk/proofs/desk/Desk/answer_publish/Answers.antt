use Rattle.tl_desk.proofs.PlayLemmas.{out_kept, published_stay}
use Rattle.tl_desk.proofs.desk.Desk.answer_publish.Goals as goal

pub returns-in-Ok-clause-out : goal.returns-in-Ok-clause-out
returns-in-Ok-clause-out g c = λ places are.
    out_kept places c.args.self.now c.publish.new.self (published_stay c.args.self.now c.publish.new.self c.in-Ok.version c.in-Ok.ensures.step) are
