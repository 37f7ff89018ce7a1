use Rattle.std.proofs.Common.{sym, ◌∙◌}
use Rattle.tl_link_rules.proofs.FlowLaws.{carried}
use Rattle.tl_apart.specs.LinkJudge.{alone}
use Rattle.tl_apart.proofs.JudgeLaws.{clean_rules, clean_flow, clean_permissions}
use Rattle.tl_apart.proofs.link_judge.LinkJudge.clean_head.Goals as goal

pub keeps_flow-requires : goal.keeps_flow-requires
keeps_flow-requires c =
    let beat = c.args.at.now.beat in
    carried c.args.terms.now.decl.now.level beat.chan beat.opcode c.in_ok-op.op (sym c.op_of.ensures ∙ c.in_ok-op.was)

pub returns-clause-rules : goal.returns-clause-rules
returns-clause-rules c s shows =
    let p = c.args.at.now in
    let terms = c.args.terms.now in
    let o = c.in_ok-op.op in
    let request = c.request_of-request.ensures in
    clean_rules (alone terms) s p o (sym (shows.bursts p.beat.chan) ∙ c.requires.head) (sym c.op_of.ensures ∙ c.in_ok-op.was)
    (c.keeps_format.ensures c.if-not-keeps_format.false)
    (clean_flow s p.beat o _ c.request_of-request.result shows.flow request (c.keeps_flow.ensures c.if-not-keeps_flow.false))
    (clean_permissions terms s p.beat o _ shows.client.shows (c.keeps_permissions.ensures c.if-not-keeps_permissions.false))
