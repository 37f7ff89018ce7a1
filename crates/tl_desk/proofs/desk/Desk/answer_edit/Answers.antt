use Rattle.tl_desk.proofs.PlayLemmas.{out_kept, edited_stay}
use Rattle.tl_desk.proofs.desk.Desk.answer_edit.Goals as goal

pub returns-in-Ok-clause-out : goal.returns-in-Ok-clause-out
returns-in-Ok-clause-out g c = λ places are.
    out_kept places c.args.self.now c.edit.new.self (edited_stay c.args.self.now c.edit.new.self c.args.change c.in-Ok.number c.in-Ok.ensures.boxes c.in-Ok.ensures.step) are
