use Rattle.std.proofs.Common.{Bool, false, ap, ◌∙◌}
use Rattle.std.specs.Option.{option_map_or}
use Rattle.tl_tables.specs.declared.Perm.{Perm}
use Rattle.tl_definitions.specs.Messages.{round_down}
use Rattle.tl_definitions.specs.Rules.{is_wrong}
use Rattle.tl_definitions.specs.Known.{KnownClient}
use Rattle.tl_definitions.specs.Printed.{every_bound}
use Rattle.tl_midway.specs.KnownLink.{shown}
use Rattle.tl_midway.proofs.known_link.KnownLink.claims_wrongly.Goals as goal

pub returns-in-Some : goal.returns-in-Some
returns-in-Some c =
    let past : KnownClient = (shown c.args.self.now).client in
    let test : Perm → Bool = λ held. is_wrong c.args.strict held c.in-Some.from in
    c.surely_wrong.ensures
    ∙ ap (λ b. every_bound test (past.bound b)) c.block.ensures
    ∙ ap (λ found. option_map_or (λ from. every_bound (λ held. is_wrong c.args.strict held from) (past.bound (round_down c.args.self.now.exponent c.args.head.now.address))) found false)
    c.in-Some.ensures
