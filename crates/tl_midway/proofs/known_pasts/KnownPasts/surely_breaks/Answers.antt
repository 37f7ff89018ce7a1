use Rattle.std.proofs.Common.{◌∙◌}
use Rattle.tl_definitions.specs.Known.{bare, known_request, known_pasts}
use Rattle.tl_definitions.specs.Printed.{front, grant_open, breaks_manager_surely}
use Rattle.tl_midway.specs.Known.{known_of}
use Rattle.tl_midway.proofs.AskedLaws.{first_is, second_is, flow_breaks, permission_breaks, manager_breaks}
use Rattle.tl_midway.proofs.known_pasts.KnownPasts.surely_breaks.Goals as goal

pub returns-then-surely_breaks : goal.returns-then-surely_breaks
returns-then-surely_breaks c m start before stands stood is =
    let link = c.args.at.now.link in
    let message = bare c.args.op c.args.at.now.beat in
    let r = c.args.rule in
    first_is c.surely_breaks.result
    (breaks_manager_surely m.clients m.exponent (known_pasts m start before) (grant_open (front m start before)) link (known_request (known_pasts m start before link).flow message) message r)
    _ _ _ _ c.surely_breaks.ensures
    (flow_breaks m start before c.args.self.now stands link c.args.past.now stood c.args.strict is message r)
    (permission_breaks m start before c.args.self.now stands link c.args.past.now stood c.args.strict is message r) c.if-surely_breaks.true

pub returns-else-surely_breaks : goal.returns-else-surely_breaks
returns-else-surely_breaks c m start before stands stood is =
    let link = c.args.at.now.link in
    let message = bare c.args.op c.args.at.now.beat in
    let r = c.args.rule in
    second_is c.surely_breaks.result c.breaks.result _ _ _ _ _ c.surely_breaks.ensures
    (flow_breaks m start before c.args.self.now stands link c.args.past.now stood c.args.strict is message r)
    (permission_breaks m start before c.args.self.now stands link c.args.past.now stood c.args.strict is message r) c.if-surely_breaks.false
    (c.breaks.ensures ∙ manager_breaks m start before c.args.self.now stands link c.args.past.now stood c.args.strict is message r (known_of c.request.result) c.request.ensures)
