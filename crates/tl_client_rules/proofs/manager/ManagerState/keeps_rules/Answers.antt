use Rattle.tl_definitions.specs.Heads.{message_of}
use Rattle.tl_client_rules.specs.Manager.{shown}
use Rattle.tl_client_rules.proofs.ManagerLaws.{inside, own_shows, clean_law}
use Rattle.tl_client_rules.proofs.manager.ManagerState.keeps_rules.Goals as goal

pub returns-then-keeps_permissions : goal.returns-then-keeps_permissions
returns-then-keeps_permissions c numbers power pasts is answer kept =
    let state = c.args.self.now in
    let place = c.args.place in
    let at = c.requires.place in
    let within = inside (shown state) c.args.link place c.requires.link at in
    let own = own_shows numbers power state pasts c.args.link place c.index.result.now at within c.index.ensures is in
    clean_law c.args.decl.now.strict numbers power state pasts c.args.link c.index.result.now c.args.head.now c.args.request (message_of c.args.decl.now c.args.head.now) c.args.op c.requires.message is own answer
    (c.keeps_permissions.ensures c.if-keeps_permissions.true) (c.keeps_coherence.ensures kept)
