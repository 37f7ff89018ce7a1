use Rattle.tl_definitions.specs.Heads.{message_of}
use Rattle.tl_link_rules.proofs.FlowLaws.{stands_ok}
use Rattle.tl_link_rules.proofs.flow.FlowState.step.Goals as goal

pub returns-clause-stands : goal.returns-clause-stands
returns-clause-stands c before stands =
    stands_ok c.advance.result c.args.self.now c.advance.new.self before c.args.head.now (message_of c.args.link.now c.args.head.now) stands c.advance.ensures.next
