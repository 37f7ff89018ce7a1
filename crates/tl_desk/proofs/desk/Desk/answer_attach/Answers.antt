use Rattle.tl_desk.proofs.PlayLemmas.{out_kept, attached_stay}
use Rattle.tl_desk.proofs.desk.Desk.answer_attach.Goals as goal

pub returns-in-Ok-clause-out : goal.returns-in-Ok-clause-out
returns-in-Ok-clause-out g c = λ places are.
    out_kept places c.args.self.now c.attach.new.self
    (attached_stay c.args.self.now c.attach.new.self c.args.number (g.M.Monitor.held c.args.monitor).watch c.in-Ok.number c.attach.ensures.kept c.in-Ok.ensures.step) are
