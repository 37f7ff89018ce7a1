use Rattle.std.proofs.Common.{◌∙◌}
use Rattle.tl_beats.specs.declared.Placed.{Placed}
use Rattle.tl_definitions.specs.Heads.{message_of}
use Rattle.tl_definitions.specs.Messages.{messages_on}
use Rattle.tl_definitions.specs.Past.{pasts_of}
use Rattle.tl_client_rules.proofs.ClientLaws.{answer_law}
use Rattle.tl_client_rules.proofs.StandLaws.{stands_law, broken_law}
use Rattle.tl_client_rules.proofs.manager.ManagerState.step.Goals as goal

pub returns-clause-broken : goal.returns-clause-broken
returns-clause-broken c m before fragment line is head stands answer =
    let p : Placed = record { link = c.args.link; fragment = fragment; line = line; beat = c.args.head.now } in
    let found = message_of c.args.decl.now c.args.head.now in
    let known = answer ∙ answer_law m.exponent (messages_on m.links c.args.link before) c.args.head.now found in
    broken_law c.advance.result m before p c.args.decl.now is head (c.advance.ensures.judged m.clients m.exponent (pasts_of m.links m.exponent before) stands known)

pub returns-clause-stands : goal.returns-clause-stands
returns-clause-stands c m before fragment line is head stands answer =
    let p : Placed = record { link = c.args.link; fragment = fragment; line = line; beat = c.args.head.now } in
    let found = message_of c.args.decl.now c.args.head.now in
    let known = answer ∙ answer_law m.exponent (messages_on m.links c.args.link before) c.args.head.now found in
    stands_law c.advance.result m before p c.args.decl.now c.advance.new.self is head (c.advance.ensures.next m.clients m.exponent (pasts_of m.links m.exponent before) stands known)
