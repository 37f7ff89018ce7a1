use Rattle.std.proofs.Common.{◌≡◌, Some, sym, ap, ◌∙◌}
use Rattle.std.specs.Prelude.{filter}
use Rattle.tl_definitions.specs.Heads.{message_of}
use Rattle.tl_link_rules.specs.Flow.{rules_in}
use Rattle.tl_check.specs.Requests.{breaks_open, open_order}
use Rattle.tl_check.proofs.PlainLaws.{one_plain, flow_is_open}
use Rattle.tl_check.proofs.requests.Requests.step.Goals as goal

pub change-requires : goal.change-requires
change-requires c = one_plain c.args.link.now c.args.head.now c.in-Some.op c.requires (sym c.op_of.ensures ∙ c.in-Some.is)

pub returns-clause-rules : goal.returns-clause-rules
returns-clause-rules c past has =
    let head = c.args.head.now in
    let message : message_of c.args.link.now head ≡ Some c.in-Some.op = sym c.op_of.ensures ∙ c.in-Some.is in
    c.broken_rules-rules.ensures ∙ ap (λ request. filter (breaks_open request c.in-Some.op head) open_order) (c.get-request.ensures ∙ has head.source)
    ∙ sym (flow_is_open past head c.in-Some.op (one_plain c.args.link.now head c.in-Some.op c.requires message)) ∙ sym (ap (rules_in past head) message)
