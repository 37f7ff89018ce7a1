use Rattle.std.proofs.Common.{◌≡◌, Some, sym, ap, subst}
use Rattle.std.specs.Option.{option_and_then}
use Rattle.tl_desk.specs.Plays.{AreOut, job_at, job_of}
use Rattle.tl_desk.proofs.PlayLemmas.{out_abandoned}
use Rattle.tl_desk.proofs.desk.Desk.answer_abandon.Goals as goal

pub give_up-requires : goal.give_up-requires
give_up-requires g c =
    let is : job_at c.args.at c.args.places.now.items ≡ Some c.in-Some.job = ap (option_and_then job_of) c.in-Some.ensures.some.0 in
    c.requires.each c.args.at c.in-Some.job is

pub returns-clause-out : goal.returns-clause-out
returns-clause-out g c =
    let job = c.in-Some.job in
    let is : job_at c.args.at c.args.places.now.items ≡ Some job = ap (option_and_then job_of) c.in-Some.ensures.some.0 in
    subst (λ ps. AreOut ps c.give_up.new.self) (sym c.in-Some.ensures.some.1)
    (out_abandoned c.args.places.now.items c.args.at job c.args.self.now c.give_up.new.self is c.give_up.ensures.desk.kept c.give_up.ensures.desk.boxes c.requires c.give_up.ensures.back)

pub returns-clause-answers : goal.returns-clause-answers
returns-clause-answers g c = (c.in-Some.job, c.in-Some.ensures.some.0, (c.give_up.ensures.step, c.give_up.ensures.back), c.in-Some.ensures.some.1)
