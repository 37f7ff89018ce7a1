use Rattle.std.proofs.Common.{Some, refl, sym, ap, ◌∙◌}
use Rattle.tl_definitions.specs.Heads.{message_of}
use Rattle.tl_link_rules.specs.Flow as flow
use Rattle.tl_client_rules.specs.Manager as managers
use Rattle.tl_topology.specs.Regions.{areas_of}
use Rattle.tl_check.specs.States.{flow_at, past_at, shown}
use Rattle.tl_check.proofs.StateLaws.{head_next}
use Rattle.tl_check.proofs.StepLaws.{at_place, link_at, burst_here, flow_here, on_ok, whatever, head_is_judged, served_format, head_rows}
use Rattle.tl_check.proofs.state.SpanState.judge_head.Goals as goal

pub returns-clause-rows : goal.returns-clause-rows
returns-clause-rows c m of serves =
    let p = c.args.at.now in
    let old = c.args.self.now in
    let link = c.index_mut.result.now in
    let place = c.place-place.result in
    let stood = at_place old p.link place link (Some place) (sym c.place-place.ensures.at) refl c.requires.link c.index_mut.ensures.value in
    let at = link_at old p.link place link stood.0 stood.1 in
    let found = c.in_ok-answer.ensures.answer in
    let opcode = message_of c.args.decl.now p.beat in
    let past = flow_here old p.link link at in
    let request = c.as_ref-request.ensures.value ∙ found.1 ∙ ap (λ f. flow.answered_in f p.beat opcode) past in
    let clients = c.in_ok-clients.ensures.judged m.clients m.exponent (past_at old) of.clients request in
    let message = ap (λ d. message_of d p.beat) (sym serves.declared) in
    let rules = head_is_judged m (shown old) p (message_of (m.links p.link) p.beat) c.check_head-format.result c.in_ok-answer.answer.rules c.in_ok-clients.clients
    (c.check_head-format.ensures ∙ served_format m p c.args.decl.now c.args.exponent (areas_of c.args.regions.now) serves)
    (found.0 ∙ ap (λ f. flow.rules_in f p.beat opcode) past ∙ ap (flow.rules_in (flow_at old p.link) p.beat) message)
    (clients ∙ ap (λ d. managers.rules_in m.clients m.exponent d.strict (past_at old) p.link p.beat (message_of d p.beat)) (sym serves.declared)) in
    on_ok c.add_rows-3.result
    (λ three. head_rows m old p c.check_head-format.result c.in_ok-answer.answer.rules c.in_ok-clients.clients c.args.rows.now.items c.add_rows.new.rows.items c.add_rows-2.new.rows.items
    c.add_rows-3.new.rows.items c.requires.head rules c.in_ok-add_rows.ensures c.in_ok-add_rows-2.ensures three)
    c.add_rows-3.ensures

pub returns-clause-next : goal.returns-clause-next
returns-clause-next c m of serves =
    let p = c.args.at.now in
    let old = c.args.self.now in
    let link = c.index_mut.result.now in
    let place = c.place-place.result in
    let stood = at_place old p.link place link (Some place) (sym c.place-place.ensures.at) refl c.requires.link c.index_mut.ensures.value in
    let at = link_at old p.link place link stood.0 stood.1 in
    let free = sym (burst_here old p.link link p.beat.chan at) ∙ c.requires.head in
    let found = c.in_ok-answer.ensures.answer in
    let request = c.as_ref-request.ensures.value ∙ found.1 ∙ ap (λ f. flow.answered_in f p.beat (message_of c.args.decl.now p.beat)) (flow_here old p.link link at) in
    let shows = c.in_ok-clients.ensures.next m.clients m.exponent (past_at old) of.clients request in
    whatever c.add_rows-3.result
    (head_next m old _ p c.args.decl.now place link c.begin.new.self of serves.declared c.requires.beat stood.0 stood.1 c.in_ok-answer.ensures.next refl (shows.clients ∙ sym of.clients.clients) free
    shows c.in_ok-clients.ensures.count)
