use Rattle.std.proofs.Common.{◌≡◌, Some, sym, subst, ◌∙◌}
use Rattle.std.specs.Option.{IfSome}
use Rattle.tl_desk.specs.Jobs.{IsOutHere}
use Rattle.tl_desk.specs.Plays.{LeavesOne, job_of}
use Rattle.tl_desk.proofs.PlayLemmas.{left_none, left_out, out_rest}
use Rattle.tl_desk.proofs.desk.Desk.leave_one.Goals as goal

pub returns-in_default-clause-left : goal.returns-in_default-clause-left
returns-in_default-clause-left g c = left_none c.args.place c.args.self.now (sym c.into_job.ensures ∙ c.in_default.is)

pub returns-in_default-clause-out : goal.returns-in_default-clause-out
returns-in_default-clause-out g c = λ rest are. out_rest c.args.place rest c.args.self.now are

pub give_up-requires : goal.give_up-requires
give_up-requires g c =
    let is : job_of c.args.place ≡ Some c.in-Some.job = sym c.into_job.ensures ∙ c.in-Some.is in
    subst (λ o. IfSome o (IsOutHere c.args.self.now)) is c.requires

pub returns-clause-left : goal.returns-clause-left
returns-clause-left g c =
    let is : job_of c.args.place ≡ Some c.in-Some.job = sym c.into_job.ensures ∙ c.in-Some.is in
    subst (λ o. LeavesOne o c.args.self.now c.give_up.new.self) (sym is) (c.give_up.ensures.step, c.give_up.ensures.back)

pub returns-clause-out : goal.returns-clause-out
returns-clause-out g c = λ rest are. (
    let is : job_of c.args.place ≡ Some c.in-Some.job = sym c.into_job.ensures ∙ c.in-Some.is in
    left_out c.args.place rest c.in-Some.job c.args.self.now c.give_up.new.self is c.give_up.ensures.desk.kept c.give_up.ensures.desk.boxes are c.give_up.ensures.back)
