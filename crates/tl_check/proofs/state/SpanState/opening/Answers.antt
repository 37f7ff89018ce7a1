use Rattle.std.proofs.Common.{ap, length, ◌∙◌}
use Rattle.tl_definitions.specs.Managers.{manager_at, declared_links}
use Rattle.tl_client_rules.proofs.ClientsLaws.{clients_rise}
use Rattle.tl_check.proofs.StateLaws.{opening_stands}
use Rattle.tl_check.proofs.state.SpanState.opening.Goals as goal

pub returns : goal.returns
returns c regions =
    let stands = c.in_ok-clients.ensures.opening regions in
    opening_stands (manager_at c.args.topo.now c.args.manager regions) _ (clients_rise c.args.manager (declared_links c.args.topo.now))
    (c.in_ok-links.ensures.0 ∙ c.count.ensures ∙ ap length stands.clients)
    c.in_ok-links.ensures.1 stands (c.in_ok-clients.ensures.count ∙ ap length stands.clients)
