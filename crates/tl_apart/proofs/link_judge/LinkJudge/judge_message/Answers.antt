use Rattle.std.proofs.Common.{◌∙◌}
use Rattle.tl_check.proofs.PlainLinkLaws.{still_formed}
use Rattle.tl_apart.specs.LinkJudge.{alone}
use Rattle.tl_apart.proofs.JudgeLaws.{answered, message_next, message_rows}
use Rattle.tl_apart.proofs.link_judge.LinkJudge.judge_message.Goals as goal

pub returns-clause-rows : goal.returns-clause-rows
returns-clause-rows c s shows =
    let p = c.args.at.now in
    let terms = c.args.terms.now in
    message_rows terms s p c.args.head.now.op _ _ c.in_ok-flow.flow.rules c.in_ok-permissions.permissions c.args.found.now.rows.items c.add_rows.new.rows.items c.add_rows-2.new.rows.items
    shows.flow c.requires.message c.in_ok-flow.ensures.judged.0 (c.in_ok-permissions.ensures.shown terms.exponent s.past shows.client) c.in_ok-add_rows.ensures c.in_ok-add_rows-2.ensures

pub returns-clause-next : goal.returns-clause-next
returns-clause-next c s shows =
    let p = c.args.at.now in
    let terms = c.args.terms.now in
    let head = c.args.head.now in
    let request = c.as_ref-request.ensures.value ∙ answered s c.args.self.now p.beat _ head.op head.request terms.exponent shows c.requires.message c.requires.request in
    message_next (alone terms) s p c.args.self.now _ shows c.pass.ensures c.requires.head head.op c.requires.message head.request c.requires.request c.in_ok-flow.ensures.next
    (c.in_ok-permissions.ensures.next terms.exponent s.past shows.client request) c.in_ok-keep_granted.ensures

pub returns-clause-formed : goal.returns-clause-formed
returns-clause-formed c = still_formed c.args.terms.now.decl.now c.args.at.now.beat c.args.self.now.bursts _ c.requires.beat c.requires.formed c.pass.ensures
