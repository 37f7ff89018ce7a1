use Rattle.tl_definitions.specs.Heads.{message_of}
use Rattle.tl_link_rules.proofs.FlowLaws.{passed}
use Rattle.tl_link_rules.proofs.flow.FlowState.pass.Goals as goal

pub returns-clause-next : goal.returns-clause-next
returns-clause-next c =
    let changed = c.change.ensures in
    passed c.change.result c.args.self.now c.change.new.self c.args.head.now (message_of c.args.link.now c.args.head.now) c.args.op c.requires changed.source changed.release changed.sink
