use Rattle.std.proofs.Common.{◌++◌, ◌∷◌, [], append-nil, sym, ap, ◌∙◌}
use Rattle.std.specs.Prelude.{filter}
use Rattle.tl_tables.specs.declared.Rule.TheVariants as rule
use Rattle.tl_definitions.specs.Rules.{flow_order}
use Rattle.tl_definitions.specs.Known.{bare}
use Rattle.tl_link_rules.proofs.Picks.{told}
use Rattle.tl_definitions.specs.Printed.{breaks_flow_surely}
use Rattle.tl_midway.specs.Known.{known_of}
use Rattle.tl_midway.specs.KnownLink.{shown}
use Rattle.tl_midway.proofs.known_link.KnownLink.flow_rules.Goals as goal

pub returns : goal.returns
returns c =
    let flow = (shown c.args.self.now).flow in
    let message = bare c.args.op c.args.head.now in
    let broken = breaks_flow_surely flow (known_of c.request-request.result) message in
    sym (append-nil c.push_if-9.new.self)
    ∙ told broken rule.S9 [] _ _ c.breaks_answering-9.ensures c.push_if-9.ensures.exact
    ∙ told broken rule.S8 (rule.S9 ∷ []) _ _ c.breaks_answering-8.ensures c.push_if-8.ensures.exact
    ∙ told broken rule.S7 (rule.S8 ∷ rule.S9 ∷ []) _ _ c.breaks_answering-7.ensures c.push_if-7.ensures.exact
    ∙ told broken rule.S6 (rule.S7 ∷ rule.S8 ∷ rule.S9 ∷ []) _ _ c.breaks_answering-6.ensures c.push_if-6.ensures.exact
    ∙ told broken rule.S5 (rule.S6 ∷ rule.S7 ∷ rule.S8 ∷ rule.S9 ∷ []) _ _ c.breaks_answering-5.ensures c.push_if-5.ensures.exact
    ∙ told broken rule.S4 (rule.S5 ∷ rule.S6 ∷ rule.S7 ∷ rule.S8 ∷ rule.S9 ∷ []) _ _ c.breaks_answering-4.ensures c.push_if-4.ensures.exact
    ∙ told broken rule.S3 (rule.S4 ∷ rule.S5 ∷ rule.S6 ∷ rule.S7 ∷ rule.S8 ∷ rule.S9 ∷ []) _ _ c.breaks_answering-3.ensures c.push_if-3.ensures.exact
    ∙ told broken rule.S2 (rule.S3 ∷ rule.S4 ∷ rule.S5 ∷ rule.S6 ∷ rule.S7 ∷ rule.S8 ∷ rule.S9 ∷ []) _ _ c.breaks_answering-2.ensures c.push_if-2.ensures.exact
    ∙ told broken rule.S1 (rule.S2 ∷ rule.S3 ∷ rule.S4 ∷ rule.S5 ∷ rule.S6 ∷ rule.S7 ∷ rule.S8 ∷ rule.S9 ∷ []) _ _ c.breaks_answering.ensures c.push_if.ensures.exact
    ∙ ap (λ rules. rules ++ filter broken flow_order) c.new-rules.ensures
    ∙ ap (λ request. filter (breaks_flow_surely flow request message) flow_order) c.request-request.ensures
