use Rattle.std.proofs.Common.{◌≡◌, [], Some, refl, sym, ap, ◌∙◌}
use Rattle.std.specs.Prelude.{filter}
use Rattle.tl_topology.specs.Regions.{areas_of}
use Rattle.tl_definitions.specs.Heads.{message_of}
use Rattle.tl_definitions.specs.Rules.{format_rules, breaks_flow, flow_order}
use Rattle.tl_link_rules.specs.Flow as flow
use Rattle.tl_link_rules.proofs.FlowLaws.{carried}
use Rattle.tl_client_rules.specs.Manager as managers
use Rattle.tl_check.specs.States.{flow_at, past_at}
use Rattle.tl_check.proofs.StepLaws.{at_place, link_at, flow_here, clean_rules, served_format}
use Rattle.tl_check.proofs.state.SpanState.clean_head.Goals as goal

pub keeps_flow-requires : goal.keeps_flow-requires
keeps_flow-requires c =
    let beat = c.args.at.now.beat in
    carried c.args.decl.now.level beat.chan beat.opcode c.in_ok-op.op (sym c.op_of.ensures ∙ c.in_ok-op.was)

pub returns-clause-request : goal.returns-clause-request
returns-clause-request c =
    let p = c.args.at.now in
    let old = c.args.self.now in
    let link = c.index.result.now in
    let place = c.args.place in
    let stood = at_place old p.link place link (Some place) (sym c.requires.place) refl c.requires.link c.index.ensures in
    let at = link_at old p.link place link stood.0 stood.1 in
    let message : message_of c.args.decl.now p.beat ≡ Some c.in_ok-op.op = sym c.op_of.ensures ∙ c.in_ok-op.was in
    c.request_of-request.ensures ∙ ap (flow.answered_in (flow.shown link.flow) p.beat) (sym message) ∙ ap (λ f. flow.answered_in f p.beat (message_of c.args.decl.now p.beat)) (flow_here old p.link link at)

pub returns-clause-rules : goal.returns-clause-rules
returns-clause-rules c m of serves =
    let p = c.args.at.now in
    let old = c.args.self.now in
    let decl = c.args.decl.now in
    let areas = areas_of c.args.regions.now in
    let o = c.in_ok-op.op in
    let link = c.index.result.now in
    let place = c.args.place in
    let stood = at_place old p.link place link (Some place) (sym c.requires.place) refl c.requires.link c.index.ensures in
    let at = link_at old p.link place link stood.0 stood.1 in
    let past = flow_here old p.link link at in
    let message : message_of decl p.beat ≡ Some o = sym c.op_of.ensures ∙ c.in_ok-op.was in
    let own : message_of (m.links p.link) p.beat ≡ message_of decl p.beat = ap (λ d. message_of d p.beat) serves.declared in
    let request = c.request_of-request.ensures ∙ ap (flow.answered_in (flow.shown link.flow) p.beat) (sym message) ∙ ap (λ f. flow.answered_in f p.beat (message_of decl p.beat)) past in
    let format : format_rules c.args.exponent areas decl p.beat (message_of decl p.beat) ≡ [] = ap (format_rules c.args.exponent areas decl p.beat) message ∙ c.keeps_format.ensures c.if-not-keeps_format.false in
    let flows : flow.rules_in (flow.shown link.flow) p.beat (Some o) ≡ [] =
    ap (λ r. filter (breaks_flow (flow.shown link.flow) (record { op = o; beat = p.beat; request = r })) flow_order) (sym c.request_of-request.ensures) ∙ c.keeps_flow.ensures c.if-not-keeps_flow.false in
    let clients = c.keeps_rules.ensures m.clients m.exponent (past_at old) of.clients request c.if-not-keeps_rules.false in
    clean_rules m old p c.requires.head (sym format ∙ served_format m p decl c.args.exponent areas serves)
    (sym (ap (flow.rules_in (flow_at old p.link) p.beat) (own ∙ message) ∙ ap (λ f. flow.rules_in f p.beat (Some o)) (sym past) ∙ flows))
    (sym (ap (λ d. managers.rules_in m.clients m.exponent d.strict (past_at old) p.link p.beat (message_of d p.beat)) serves.declared ∙ clients))
