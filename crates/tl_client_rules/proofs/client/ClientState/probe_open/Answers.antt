use Rattle.std.specs.Prelude.{is_some}
use Rattle.std.proofs.Common.{◌≡◌, rules, ap, ◌∙◌}
use Rattle.tl_client_rules.specs.Client.{ClientView, shown}
use Rattle.tl_client_rules.proofs.client.ClientState.probe_open.Goals as goal

pub returns-clause-stands : goal.returns-clause-stands
returns-clause-stands c exponent before stands =
    let here : c.is_some.result ≡ is_some ((shown c.args.self.now).past.probe c.args.block) = search rules in
    here ∙ ap (λ (view : ClientView). is_some (view.past.probe c.args.block)) stands.shows
