use Rattle.std.proofs.Common.{◌++◌, ◌∷◌, [], append-nil, sym, ap, ◌∙◌}
use Rattle.std.specs.Prelude.{filter}
use Rattle.tl_tables.specs.declared.Rule.TheVariants as rule
use Rattle.tl_definitions.specs.Rules.{breaks_manager, manager_order}
use Rattle.tl_link_rules.proofs.Picks.{told}
use Rattle.tl_client_rules.specs.Client.{head_with}
use Rattle.tl_client_rules.specs.Manager.{past_at}
use Rattle.tl_client_rules.proofs.manager.ManagerState.broken_rules.Goals as goal

pub returns : goal.returns
returns c =
    let state = c.args.self.now in
    let broken = breaks_manager state.clients state.exponent (past_at state) c.args.link (head_with c.args.head.now c.args.request c.args.op) in
    sym (append-nil c.push_if-3.new.self)
    ∙ told broken rule.M3 [] _ _ c.breaks-3.ensures c.push_if-3.ensures.exact
    ∙ told broken rule.M2 (rule.M3 ∷ []) _ _ c.breaks-2.ensures c.push_if-2.ensures.exact
    ∙ told broken rule.M1 (rule.M2 ∷ rule.M3 ∷ []) _ _ c.breaks.ensures c.push_if.ensures.exact
    ∙ ap (λ rules. rules ++ filter broken manager_order) c.new-rules.ensures
