use Rattle.std.proofs.Common.{ap, sym, ◌∙◌}
use Rattle.tl_client_rules.specs.Client.{ClientView}
use Rattle.tl_client_rules.proofs.client.ClientState.has_trunk.Goals as goal

pub returns-clause-stands : goal.returns-clause-stands
returns-clause-stands c exponent before stands =
    let same = ap (λ (view : ClientView). view.past.bound c.args.block) stands.shows in
    ((λ h. sym same ∙ c.has_trunk.ensures.0 h), (λ is. c.has_trunk.ensures.1 (same ∙ is)))
