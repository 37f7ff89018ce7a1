use Rattle.std.proofs.Common.{rules, ◌≡◌, ap, subst, ◌∙◌}
use Rattle.std.specs.Arc.{arc_value}
use Rattle.std.specs.Result.{IsErrOf}
use Rattle.std.proofs.lemmas.Result.{err_from_is_err_and}
use Rattle.tl_edits.specs.Edits.{add}
use Rattle.tl_check.specs.Once.{of_edit}
use Rattle.tl_check.specs.declared.once.OnceFault.TheVariants as fault
use Rattle.tl_check.proofs.AddedLaws.{next_log, first_why, told_of}
use Rattle.tl_check.proofs.once.all_added.Goals as goal

pub returns-in_err-push-clause-refused : goal.returns-in_err-push-clause-refused
returns-in_err-push-clause-refused c code number h =
    let it = ap add (c.in_ok-shared.ensures ∙ ap arc_value c.fragment-item.is) in
    let p = err_from_is_err_and c.from_residual-in_err-push.result c.from_residual-in_err-push.ensures.1 in
    let told = subst (λ r. IsErrOf r (fault.Refused code number)) p.1 h in
    let is : of_edit c.in_err-push.field-0.0 ≡ fault.Refused code number = cc (p.2, told) in
    let why = told_of c.in_err-push.field-0.0 code number is in
    let first = first_why arc_value c.args.topo.now c.args.fragments.now c.loop-fragment.fragment-index c.fragment-item.result c.loop-fragment-test.true
    c.loop-fragment.log c.loop-fragment.invariant.0 c.loop-fragment.invariant.1 (add (arc_value c.in_ok-shared.shared)) it c.in_err-push.field-0.0 (c.in_err-push.ensures.refused why.0) in
    (c.in_err-push.field-0.0, first, why.1, why.2)

pub loop-fragment-preserved : goal.loop-fragment-preserved
loop-fragment-preserved c =
    let it = ap add (c.in_ok-shared.ensures ∙ ap arc_value c.fragment-item.is) in
    next_log arc_value c.args.topo.now c.args.fragments.now c.loop-fragment.fragment-index c.fragment-item.result c.loop-fragment-test.true
    c.loop-fragment.log c.loop-fragment.invariant.0 c.loop-fragment.invariant.1 (add (arc_value c.in_ok-shared.shared)) it c.push.new.self c.in_ok-push.ensures.ok c.in_ok-push.ensures.accepted
