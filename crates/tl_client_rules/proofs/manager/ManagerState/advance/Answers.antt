use Rattle.std.proofs.Common.{◌++◌, refl, sym, ap, ◌∙◌}
use Rattle.std.specs.Vec.{with_item}
use Rattle.tl_definitions.specs.Heads.{message_of}
use Rattle.tl_client_rules.specs.Manager.{manager_rules, shown}
use Rattle.tl_client_rules.proofs.ManagerLaws.{inside, own_shows, judged_law, next_law, left_alone, on_err}
use Rattle.tl_client_rules.proofs.manager.ManagerState.advance.Goals as goal

pub returns-clause-judged : goal.returns-clause-judged
returns-clause-judged c numbers power pasts is answer =
    let state = c.args.self.now in
    let found = message_of c.args.decl.now c.args.head.now in
    let place = c.unwrap-place.result in
    let at = sym c.place.ensures ∙ c.unwrap-place.ensures in
    let within = inside (shown state) c.args.link place c.requires.link at in
    let own = own_shows numbers power state pasts c.args.link place c.index_mut.result.now at within c.index_mut.ensures.value is in
    c.append.ensures
    ∙ ap (λ across. c.in_ok-rules.rules ++ across) (c.as_slice.ensures ∙ c.judge-across.ensures.rules)
    ∙ ap (λ rules. rules ++ manager_rules state c.args.link c.args.head.now c.copied.result found) (c.in_ok-rules.ensures.shown power (pasts c.args.link) own)
    ∙ judged_law c.args.decl.now.strict numbers power state pasts c.args.link c.args.head.now c.copied.result found is (c.copied.ensures ∙ answer)

pub returns-clause-next : goal.returns-clause-next
returns-clause-next c numbers power pasts is answer =
    let state = c.args.self.now in
    let found = message_of c.args.decl.now c.args.head.now in
    let place = c.unwrap-place.result in
    let at = sym c.place.ensures ∙ c.unwrap-place.ensures in
    let within = inside (shown state) c.args.link place c.requires.link at in
    let own = own_shows numbers power state pasts c.args.link place c.index_mut.result.now at within c.index_mut.ensures.value is in
    next_law numbers power state _ c.step.new.self pasts c.args.link place c.args.head.now found at within refl refl refl is
    (c.in_ok-rules.ensures.next power (pasts c.args.link) own answer)

pub returns-in_err-rules-clause-err : goal.returns-in_err-rules-clause-err
returns-in_err-rules-clause-err c =
    on_err c.from_residual.result (left_alone c.args.self.now (record { exponent = c.args.self.now.exponent; clients = c.args.self.now.clients; states = with_item c.args.self.now.states c.unwrap-place.result c.step.new.self })
    c.unwrap-place.result c.index_mut.result.now c.step.new.self refl refl refl c.index_mut.ensures.value c.in_err-rules.ensures.err)
