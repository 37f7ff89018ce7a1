use Rattle.std.proofs.Common.{refl}
use Rattle.tl_definitions.specs.Heads.{message_of}
use Rattle.tl_client_rules.proofs.ClientLaws.{next_law as taken_law}
use Rattle.tl_client_rules.proofs.ManagerLaws.{own_shows, passed_law}
use Rattle.tl_client_rules.proofs.manager.ManagerState.pass.Goals as goal

pub returns-clause-next : goal.returns-clause-next
returns-clause-next c link at numbers power pasts is answer =
    let state = c.args.self.now in
    let place = c.args.place in
    let within = c.requires.place in
    let own = own_shows numbers power state pasts link place c.index_mut.result.now at within c.index_mut.ensures.value is in
    passed_law c.pass.result numbers power state _ c.pass.new.self pasts link place c.args.head.now (message_of c.args.decl.now c.args.head.now) at within refl refl refl is
    (taken_law c.pass.result power c.index_mut.result.now c.pass.new.self (pasts link) c.args.head.now c.args.request (message_of c.args.decl.now c.args.head.now) own answer c.pass.ensures.next)
