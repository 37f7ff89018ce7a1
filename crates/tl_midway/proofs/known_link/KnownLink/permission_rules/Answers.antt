use Rattle.std.proofs.Common.{◌++◌, ◌∷◌, [], append-nil, sym, ap, ◌∙◌}
use Rattle.std.specs.Prelude.{filter}
use Rattle.tl_tables.specs.declared.Rule.TheVariants as rule
use Rattle.tl_definitions.specs.Rules.{permission_order}
use Rattle.tl_definitions.specs.Known.{bare}
use Rattle.tl_link_rules.proofs.Picks.{told}
use Rattle.tl_midway.specs.KnownLink.{breaks_shown_permission}
use Rattle.tl_midway.proofs.StandLaws.{permissions_stand}
use Rattle.tl_midway.proofs.known_link.KnownLink.permission_rules.Goals as goal

pub returns-clause-shown : goal.returns-clause-shown
returns-clause-shown c =
    let broken = breaks_shown_permission c.args.strict c.args.self.now (bare c.args.op c.args.head.now) in
    sym (append-nil c.push_if-8.new.self)
    ∙ told broken rule.P8 [] _ _ c.breaks_permission-8.ensures.shown c.push_if-8.ensures.exact
    ∙ told broken rule.P7 (rule.P8 ∷ []) _ _ c.breaks_permission-7.ensures.shown c.push_if-7.ensures.exact
    ∙ told broken rule.P6 (rule.P7 ∷ rule.P8 ∷ []) _ _ c.breaks_permission-6.ensures.shown c.push_if-6.ensures.exact
    ∙ told broken rule.P5 (rule.P6 ∷ rule.P7 ∷ rule.P8 ∷ []) _ _ c.breaks_permission-5.ensures.shown c.push_if-5.ensures.exact
    ∙ told broken rule.P4 (rule.P5 ∷ rule.P6 ∷ rule.P7 ∷ rule.P8 ∷ []) _ _ c.breaks_permission-4.ensures.shown c.push_if-4.ensures.exact
    ∙ told broken rule.P3 (rule.P4 ∷ rule.P5 ∷ rule.P6 ∷ rule.P7 ∷ rule.P8 ∷ []) _ _ c.breaks_permission-3.ensures.shown c.push_if-3.ensures.exact
    ∙ told broken rule.P2 (rule.P3 ∷ rule.P4 ∷ rule.P5 ∷ rule.P6 ∷ rule.P7 ∷ rule.P8 ∷ []) _ _ c.breaks_permission-2.ensures.shown c.push_if-2.ensures.exact
    ∙ told broken rule.P1 (rule.P2 ∷ rule.P3 ∷ rule.P4 ∷ rule.P5 ∷ rule.P6 ∷ rule.P7 ∷ rule.P8 ∷ []) _ _ c.breaks_permission.ensures.shown c.push_if.ensures.exact
    ∙ ap (λ rules. rules ++ filter broken permission_order) c.new-rules.ensures

pub returns-clause-stands : goal.returns-clause-stands
returns-clause-stands c m start link before stands =
    returns-clause-shown c ∙ permissions_stand m start link before c.args.self.now c.args.strict (bare c.args.op c.args.head.now) stands
