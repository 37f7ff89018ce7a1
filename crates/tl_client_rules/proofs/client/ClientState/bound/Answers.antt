use Rattle.std.proofs.Common.{ap, ◌∙◌}
use Rattle.tl_client_rules.specs.Client.{ClientView}
use Rattle.tl_client_rules.proofs.client.ClientState.bound.Goals as goal

pub returns-clause-stands : goal.returns-clause-stands
returns-clause-stands c exponent before stands = c.get.ensures ∙ ap (λ (view : ClientView). view.past.bound c.args.block) stands.shows
