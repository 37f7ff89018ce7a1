use Rattle.std.proofs.Common.{false, ap, ◌∙◌}
use Rattle.std.specs.Option.{option_map_or}
use Rattle.tl_definitions.specs.Messages.{round_down}
use Rattle.tl_definitions.specs.Rules.{is_wrong}
use Rattle.tl_client_rules.specs.Bounds.{bound_at}
use Rattle.tl_client_rules.proofs.client.ClientState.claims_wrongly.Goals as goal

pub returns-in-Some : goal.returns-in-Some
returns-in-Some c =
    let held = bound_at c.args.self.now.bounds in
    c.is_wrong.ensures
    ∙ ap (λ bound. is_wrong c.args.strict bound c.in-Some.from) (c.get-bound.ensures ∙ ap held c.block_of.ensures)
    ∙ ap (λ found. option_map_or (is_wrong c.args.strict (held (round_down c.args.self.now.exponent c.args.head.now.address))) found false) c.in-Some.ensures
