use Rattle.std.specs.Prelude.{nat_lt}
use Rattle.std.proofs.Common.{ap, ◌∙◌}
use Rattle.tl_client_rules.specs.Client.{ClientView}
use Rattle.tl_client_rules.proofs.client.ClientState.grant_open.Goals as goal

pub returns-clause-stands : goal.returns-clause-stands
returns-clause-stands c exponent before stands = c.is_open.ensures ∙ ap (λ (view : ClientView). nat_lt 0 (view.past.grants c.args.block)) stands.shows
