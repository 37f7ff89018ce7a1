use Rattle.std.proofs.Common.{◌++◌, ◌∷◌, [], append-nil, sym, ap, ◌∙◌}
use Rattle.std.specs.Prelude.{filter}
use Rattle.tl_tables.specs.declared.Rule.TheVariants as rule
use Rattle.tl_definitions.specs.Rules.{manager_order}
use Rattle.tl_definitions.specs.Known.{bare}
use Rattle.tl_link_rules.proofs.Picks.{told}
use Rattle.tl_midway.specs.Known.{known_of}
use Rattle.tl_midway.specs.KnownPasts.{breaks_shown_manager}
use Rattle.tl_midway.proofs.known_pasts.KnownPasts.manager_rules.Goals as goal

pub returns : goal.returns
returns c =
    let broken = breaks_shown_manager c.args.self.now c.args.link (known_of c.args.request) (bare c.args.op c.args.head.now) in
    sym (append-nil c.push_if-3.new.self)
    ∙ told broken rule.M3 [] _ _ c.breaks-3.ensures c.push_if-3.ensures.exact
    ∙ told broken rule.M2 (rule.M3 ∷ []) _ _ c.breaks-2.ensures c.push_if-2.ensures.exact
    ∙ told broken rule.M1 (rule.M2 ∷ rule.M3 ∷ []) _ _ c.breaks.ensures c.push_if.ensures.exact
    ∙ ap (λ rules. rules ++ filter broken manager_order) c.new-rules.ensures
