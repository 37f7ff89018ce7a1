use Rattle.std.proofs.Common.{◌++◌, ◌∷◌, [], append-nil, sym, ap, ◌∙◌}
use Rattle.std.specs.Prelude.{filter}
use Rattle.tl_tables.specs.declared.Rule.TheVariants as rule
use Rattle.tl_definitions.specs.Rules.{breaks_flow, flow_order}
use Rattle.tl_link_rules.proofs.Picks.{told}
use Rattle.tl_link_rules.specs.Flow.{shown}
use Rattle.tl_link_rules.proofs.flow.FlowState.broken_rules.Goals as goal

pub returns : goal.returns
returns c =
    let broken = breaks_flow (shown c.args.self.now) (record { op = c.args.op; beat = c.args.head.now; request = c.args.request.now }) in
    sym (append-nil c.push_if-9.new.self)
    ∙ told broken rule.S9 [] _ _ c.breaks-9.ensures c.push_if-9.ensures.exact
    ∙ told broken rule.S8 (rule.S9 ∷ []) _ _ c.breaks-8.ensures c.push_if-8.ensures.exact
    ∙ told broken rule.S7 (rule.S8 ∷ rule.S9 ∷ []) _ _ c.breaks-7.ensures c.push_if-7.ensures.exact
    ∙ told broken rule.S6 (rule.S7 ∷ rule.S8 ∷ rule.S9 ∷ []) _ _ c.breaks-6.ensures c.push_if-6.ensures.exact
    ∙ told broken rule.S5 (rule.S6 ∷ rule.S7 ∷ rule.S8 ∷ rule.S9 ∷ []) _ _ c.breaks-5.ensures c.push_if-5.ensures.exact
    ∙ told broken rule.S4 (rule.S5 ∷ rule.S6 ∷ rule.S7 ∷ rule.S8 ∷ rule.S9 ∷ []) _ _ c.breaks-4.ensures c.push_if-4.ensures.exact
    ∙ told broken rule.S3 (rule.S4 ∷ rule.S5 ∷ rule.S6 ∷ rule.S7 ∷ rule.S8 ∷ rule.S9 ∷ []) _ _ c.breaks-3.ensures c.push_if-3.ensures.exact
    ∙ told broken rule.S2 (rule.S3 ∷ rule.S4 ∷ rule.S5 ∷ rule.S6 ∷ rule.S7 ∷ rule.S8 ∷ rule.S9 ∷ []) _ _ c.breaks-2.ensures c.push_if-2.ensures.exact
    ∙ told broken rule.S1 (rule.S2 ∷ rule.S3 ∷ rule.S4 ∷ rule.S5 ∷ rule.S6 ∷ rule.S7 ∷ rule.S8 ∷ rule.S9 ∷ []) _ _ c.breaks.ensures c.push_if.ensures.exact
    ∙ ap (λ rules. rules ++ filter broken flow_order) c.new-rules.ensures
