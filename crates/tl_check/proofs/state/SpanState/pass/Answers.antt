use Rattle.std.proofs.Common.{Some, refl, sym, ◌∙◌}
use Rattle.tl_check.specs.States.{past_at}
use Rattle.tl_check.proofs.StateLaws.{head_next}
use Rattle.tl_check.proofs.StepLaws.{at_place, link_at, burst_here, on_ok}
use Rattle.tl_check.proofs.state.SpanState.pass.Goals as goal

pub returns : goal.returns
returns c m of declared =
    let p = c.args.at.now in
    let old = c.args.self.now in
    let link = c.index_mut.result.now in
    let place = c.args.place in
    let stood = at_place old p.link place link (Some place) (sym c.requires.place) refl c.requires.link c.index_mut.ensures.value in
    let at = link_at old p.link place link stood.0 stood.1 in
    let free = sym (burst_here old p.link link p.beat.chan at) ∙ c.requires.head in
    on_ok c.pass-2.result
    (λ shows. head_next m old _ p c.args.decl.now place link c.pass.new.self of declared c.requires.beat stood.0 stood.1 c.in_ok-pass.ensures refl (shows.clients ∙ sym of.clients.clients) free
    shows c.pass-2.ensures.count)
    (c.pass-2.ensures.next p.link c.requires.place m.clients m.exponent (past_at old) of.clients c.requires.request)
