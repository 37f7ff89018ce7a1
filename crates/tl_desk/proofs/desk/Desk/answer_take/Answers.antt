use Rattle.std.proofs.Common.{Some, sym, subst}
use Rattle.tl_desk.specs.Core.{Core}
use Rattle.tl_desk.specs.Jobs.{Gives}
use Rattle.tl_desk.specs.Plays.{AreOut}
use Rattle.tl_desk.proofs.PlayLemmas.{out_taken}
use Rattle.tl_desk.proofs.desk.Desk.answer_take.Goals as goal

pub returns-in-Ok-Some-clause-out : goal.returns-in-Ok-Some-clause-out
returns-in-Ok-Some-clause-out g c =
    let old : Core = c.args.self.now in
    let new : Core = c.take.new.self in
    let job = c.in-Ok-Some.job in
    let gives : Gives old (Some job) new = subst (λ o. Gives old o new) c.in-Ok-Some.field-0-is c.in-Ok-Some.ensures.step in
    subst (λ ps. AreOut ps new) (sym c.push_reserved.ensures.items) (out_taken c.args.places.now.items job old new c.take.ensures.kept c.requires.out gives)

pub returns-in-Ok-Some-clause-answers : goal.returns-in-Ok-Some-clause-answers
returns-in-Ok-Some-clause-answers g c =
    let job = c.in-Ok-Some.job in
    let gives : Gives c.args.self.now (Some job) c.take.new.self = subst (λ o. Gives c.args.self.now o c.take.new.self) c.in-Ok-Some.field-0-is c.in-Ok-Some.ensures.step in
    (job, sym c.ticket-ticket.ensures, gives, c.push_reserved.ensures.items)
