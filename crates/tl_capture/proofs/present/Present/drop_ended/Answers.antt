use Rattle.std.proofs.Common.{◌<◌, length, sym, ap, subst, ◌∙◌}
use Rattle.tl_capture.specs.Present.{without_ended, IsPresent}
use Rattle.tl_capture.proofs.EndedLemmas.{first_number, ended_without, ended_none, fewer_ended}
use Rattle.tl_capture.proofs.present.Present.drop_ended.Goals as goal

pub loop-number-smaller : goal.loop-number-smaller
loop-number-smaller c = subst (λ n. n < length c.loop-number.self) (sym (ap length c.take.ensures.rest))
    (fewer_ended c.args.link c.args.cycle c.in-Some.number c.loop-number.self (ap (first_number c.args.link c.args.cycle) (sym c.self.view_is) ∙ sym c.in-Some.ensures))

pub loop-number-smaller-in-Some : goal.loop-number-smaller-in-Some
loop-number-smaller-in-Some c = subst (λ n. n < length c.loop-number.self) (sym (ap length c.take.ensures.rest))
    (fewer_ended c.args.link c.args.cycle c.in-Some.number c.loop-number.self (ap (first_number c.args.link c.args.cycle) (sym c.self.view_is) ∙ sym c.in-Some.ensures))

pub loop-number-preserved : goal.loop-number-preserved
loop-number-preserved c = ap (without_ended c.args.link c.args.cycle) c.take.ensures.rest
    ∙ ended_without c.args.link c.args.cycle c.in-Some.number c.loop-number.self (subst IsPresent c.self.view_is c.self.invariant.0) (ap (first_number c.args.link c.args.cycle) (sym c.self.view_is) ∙ sym c.in-Some.ensures)
    ∙ c.loop-number.invariant

pub loop-number-preserved-in-Some : goal.loop-number-preserved-in-Some
loop-number-preserved-in-Some c = ap (without_ended c.args.link c.args.cycle) c.take.ensures.rest
    ∙ ended_without c.args.link c.args.cycle c.in-Some.number c.loop-number.self (subst IsPresent c.self.view_is c.self.invariant.0) (ap (first_number c.args.link c.args.cycle) (sym c.self.view_is) ∙ sym c.in-Some.ensures)
    ∙ c.loop-number.invariant

pub returns : goal.returns
returns c = sym (ended_none c.args.link c.args.cycle c.loop-number.self (ap (first_number c.args.link c.args.cycle) (sym c.self.view_is) ∙ sym c.first_ended.ensures ∙ c.in_default.is)) ∙ c.loop-number.invariant
