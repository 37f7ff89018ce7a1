use Rattle.std.proofs.Common.{◌≡◌, ◌++◌, ◌∷◌, [], Some, append-nil, sym, ap, ◌∙◌}
use Rattle.std.specs.Prelude.{filter}
use Rattle.tl_tables.specs.declared.Rule.TheVariants as rule
use Rattle.tl_topology.specs.Regions.{areas_of}
use Rattle.tl_definitions.specs.Heads.{message_of}
use Rattle.tl_definitions.specs.Rules.{breaks_format, format_order, format_rules}
use Rattle.tl_link_rules.proofs.Picks.{told}
use Rattle.tl_link_rules.proofs.heads.check_head.Goals as goal

pub returns : goal.returns
returns c =
    let broken = breaks_format c.args.exponent (areas_of c.args.regions.now) c.args.link.now c.in-Some.op c.args.beat.now in
    let message : message_of c.args.link.now c.args.beat.now ≡ Some c.in-Some.op = sym c.op_of.ensures ∙ c.in-Some.is in
    sym (append-nil c.push_if-9.new.self)
    ∙ told broken rule.F10 [] _ _ c.breaks-9.ensures c.push_if-9.ensures.exact
    ∙ told broken rule.F9 (rule.F10 ∷ []) _ _ c.breaks-8.ensures c.push_if-8.ensures.exact
    ∙ told broken rule.F8 (rule.F9 ∷ rule.F10 ∷ []) _ _ c.breaks-7.ensures c.push_if-7.ensures.exact
    ∙ told broken rule.F7 (rule.F8 ∷ rule.F9 ∷ rule.F10 ∷ []) _ _ c.breaks-6.ensures c.push_if-6.ensures.exact
    ∙ told broken rule.F6 (rule.F7 ∷ rule.F8 ∷ rule.F9 ∷ rule.F10 ∷ []) _ _ c.breaks-5.ensures c.push_if-5.ensures.exact
    ∙ told broken rule.F5 (rule.F6 ∷ rule.F7 ∷ rule.F8 ∷ rule.F9 ∷ rule.F10 ∷ []) _ _ c.breaks-4.ensures c.push_if-4.ensures.exact
    ∙ told broken rule.F4 (rule.F5 ∷ rule.F6 ∷ rule.F7 ∷ rule.F8 ∷ rule.F9 ∷ rule.F10 ∷ []) _ _ c.breaks-3.ensures c.push_if-3.ensures.exact
    ∙ told broken rule.F3 (rule.F4 ∷ rule.F5 ∷ rule.F6 ∷ rule.F7 ∷ rule.F8 ∷ rule.F9 ∷ rule.F10 ∷ []) _ _ c.breaks-2.ensures c.push_if-2.ensures.exact
    ∙ told broken rule.F2 (rule.F3 ∷ rule.F4 ∷ rule.F5 ∷ rule.F6 ∷ rule.F7 ∷ rule.F8 ∷ rule.F9 ∷ rule.F10 ∷ []) _ _ c.breaks.ensures c.push_if.ensures.exact
    ∙ ap (λ rules. rules ++ filter broken format_order) c.new-rules.ensures
    ∙ ap (format_rules c.args.exponent (areas_of c.args.regions.now) c.args.link.now c.args.beat.now) (sym message)
