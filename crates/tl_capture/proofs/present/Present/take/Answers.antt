use Rattle.std.proofs.Common.{sym, ap, ◌∙◌}
use Rattle.tl_capture.specs.Present.{numbered, without}
use Rattle.tl_capture.proofs.EditLemmas.{gone, gone_none, without_none}
use Rattle.tl_capture.proofs.present.Present.take.Goals as goal

pub returns-in_err-last-clause-rest : goal.returns-in_err-last-clause-rest
returns-in_err-last-clause-rest c =
    let none = gone_none c.args.link c.args.number c.self.inside.numbers.entries c.self.inside.ranges c.self.invariant.1 (sym c.in_err-last.ensures.value) in
    sym (without_none c.args.link c.args.number c.self.inside.ranges none) ∙ ap (without c.args.link c.args.number) c.self.view_is

pub invariant_of-self-2 : goal.invariant_of-self-2
invariant_of-self-2 c =
    let left = gone c.args.link c.args.number c.in_ok-last.last c.self.inside.numbers.entries c.remove.new.self.entries c.self.inside.ranges c.remove-2.new.self c.self.invariant.0 c.self.invariant.1 (sym c.in_ok-last.ensures.value) c.remove-2.ensures.rest c.in_ok-last.ensures.updates.0 in
    (left.present, left.ends)

pub returns-clause-value : goal.returns-clause-value
returns-clause-value c =
    let left = gone c.args.link c.args.number c.in_ok-last.last c.self.inside.numbers.entries c.remove.new.self.entries c.self.inside.ranges c.remove-2.new.self c.self.invariant.0 c.self.invariant.1 (sym c.in_ok-last.ensures.value) c.remove-2.ensures.rest c.in_ok-last.ensures.updates.0 in
    c.remove-2.ensures.value ∙ left.found ∙ ap (numbered c.args.link c.args.number) c.self.view_is

pub returns-clause-rest : goal.returns-clause-rest
returns-clause-rest c =
    let left = gone c.args.link c.args.number c.in_ok-last.last c.self.inside.numbers.entries c.remove.new.self.entries c.self.inside.ranges c.remove-2.new.self c.self.invariant.0 c.self.invariant.1 (sym c.in_ok-last.ensures.value) c.remove-2.ensures.rest c.in_ok-last.ensures.updates.0 in
    left.rest ∙ ap (without c.args.link c.args.number) c.self.view_is
