use Rattle.std.proofs.Common.{None, ◌++◌, ◌∷◌, [], append-nil, sym, ap, ◌∙◌}
use Rattle.std.specs.Prelude.{filter}
use Rattle.tl_tables.specs.declared.Rule.TheVariants as rule
use Rattle.tl_definitions.specs.Rules.{breaks_permission, permission_order}
use Rattle.tl_link_rules.proofs.Picks.{told}
use Rattle.tl_client_rules.specs.Client.{shown, head_with}
use Rattle.tl_client_rules.proofs.client.ClientState.broken_rules.Goals as goal

pub returns : goal.returns
returns c =
    let broken = breaks_permission c.args.strict c.args.self.now.exponent (shown c.args.self.now).past (head_with c.args.head.now None c.args.op) in
    sym (append-nil c.push_if-8.new.self)
    ∙ told broken rule.P8 [] _ _ c.breaks-8.ensures c.push_if-8.ensures.exact
    ∙ told broken rule.P7 (rule.P8 ∷ []) _ _ c.breaks-7.ensures c.push_if-7.ensures.exact
    ∙ told broken rule.P6 (rule.P7 ∷ rule.P8 ∷ []) _ _ c.breaks-6.ensures c.push_if-6.ensures.exact
    ∙ told broken rule.P5 (rule.P6 ∷ rule.P7 ∷ rule.P8 ∷ []) _ _ c.breaks-5.ensures c.push_if-5.ensures.exact
    ∙ told broken rule.P4 (rule.P5 ∷ rule.P6 ∷ rule.P7 ∷ rule.P8 ∷ []) _ _ c.breaks-4.ensures c.push_if-4.ensures.exact
    ∙ told broken rule.P3 (rule.P4 ∷ rule.P5 ∷ rule.P6 ∷ rule.P7 ∷ rule.P8 ∷ []) _ _ c.breaks-3.ensures c.push_if-3.ensures.exact
    ∙ told broken rule.P2 (rule.P3 ∷ rule.P4 ∷ rule.P5 ∷ rule.P6 ∷ rule.P7 ∷ rule.P8 ∷ []) _ _ c.breaks-2.ensures c.push_if-2.ensures.exact
    ∙ told broken rule.P1 (rule.P2 ∷ rule.P3 ∷ rule.P4 ∷ rule.P5 ∷ rule.P6 ∷ rule.P7 ∷ rule.P8 ∷ []) _ _ c.breaks.ensures c.push_if.ensures.exact
    ∙ ap (λ rules. rules ++ filter broken permission_order) c.new-rules.ensures
