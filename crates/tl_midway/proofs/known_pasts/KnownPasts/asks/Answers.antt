use Rattle.std.proofs.Common.{refl, ◌∙◌}
use Rattle.tl_definitions.specs.Known.{bare, known_request, known_pasts}
use Rattle.tl_midway.specs.Unjudged.{asks_manager}
use Rattle.tl_midway.proofs.AskedLaws.{first_is, second_is, flow_asks, permission_asks, manager_asks}
use Rattle.tl_midway.proofs.known_pasts.KnownPasts.asks.Goals as goal

pub returns-then-asks : goal.returns-then-asks
returns-then-asks c m start before stands stood is =
    let link = c.args.at.now.link in
    let message = bare c.args.op c.args.at.now.beat in
    let r = c.args.rule in
    first_is c.asks.result (asks_manager m.clients m.exponent (known_pasts m start before) link (known_request (known_pasts m start before link).flow message) message r) _ _ _ _ c.asks.ensures
    (flow_asks m start before c.args.self.now stands link c.args.past.now stood c.args.strict is message r)
    (permission_asks m start before c.args.self.now stands link c.args.past.now stood c.args.strict is message r) c.if-asks.true

pub returns-else-asks : goal.returns-else-asks
returns-else-asks c m start before stands stood is =
    let link = c.args.at.now.link in
    let message = bare c.args.op c.args.at.now.beat in
    let r = c.args.rule in
    second_is c.asks.result c.asks_manager.result _ _ _ _ _ c.asks.ensures
    (flow_asks m start before c.args.self.now stands link c.args.past.now stood c.args.strict is message r)
    (permission_asks m start before c.args.self.now stands link c.args.past.now stood c.args.strict is message r) c.if-asks.false
    (c.asks_manager.ensures ∙ manager_asks m start before c.args.self.now stands link c.args.past.now stood c.args.strict is message r _ refl)
