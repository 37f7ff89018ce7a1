use Rattle.std.proofs.Common.{◌∙◌}
use Rattle.tl_definitions.specs.Heads.{message_of}
use Rattle.tl_client_rules.proofs.ClientLaws.{next_law, stands_law}
use Rattle.tl_client_rules.proofs.client.ClientState.step.Goals as goal

pub returns-clause-stands : goal.returns-clause-stands
returns-clause-stands c exponent before stands answer = stands_law c.advance.result exponent c.args.self.now c.advance.new.self before c.args.head.now c.copied.result
    (message_of c.args.link.now c.args.head.now) stands (c.copied.ensures ∙ answer) c.advance.ensures.next

pub returns-clause-next : goal.returns-clause-next
returns-clause-next c exponent past is answer = next_law c.advance.result exponent c.args.self.now c.advance.new.self past c.args.head.now c.copied.result
    (message_of c.args.link.now c.args.head.now) is (c.copied.ensures ∙ answer) c.advance.ensures.next
