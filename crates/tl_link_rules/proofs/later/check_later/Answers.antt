use Rattle.std.proofs.Common.{◌≡◌, ◌++◌, ◌∷◌, [], Some, append-nil, sym, ap, ◌∙◌}
use Rattle.std.specs.Prelude.{filter}
use Rattle.std.specs.Option.{option_map_or}
use Rattle.tl_tables.specs.declared.Rule.TheVariants as rule
use Rattle.tl_definitions.specs.Heads.{message_of}
use Rattle.tl_definitions.specs.Breaks.{breaks_later, later_order}
use Rattle.tl_link_rules.proofs.Picks.{told}
use Rattle.tl_link_rules.proofs.later.check_later.Goals as goal

pub returns : goal.returns
returns c =
    let broken = breaks_later c.args.link.now c.in-Some.op c.args.head.now c.args.beat.now in
    let message : message_of c.args.link.now c.args.head.now ≡ Some c.in-Some.op = sym c.op_of.ensures ∙ c.in-Some.is in
    sym (append-nil c.push_if-3.new.self)
    ∙ told broken rule.U1 [] _ _ c.breaks-3.ensures c.push_if-3.ensures.exact
    ∙ told broken rule.F7 (rule.U1 ∷ []) _ _ c.breaks-2.ensures c.push_if-2.ensures.exact
    ∙ told broken rule.F5 (rule.F7 ∷ rule.U1 ∷ []) _ _ c.breaks.ensures c.push_if.ensures.exact
    ∙ ap (λ rules. rules ++ filter broken later_order) c.new-rules.ensures
    ∙ ap (λ found. option_map_or (λ o. filter (breaks_later c.args.link.now o c.args.head.now c.args.beat.now) later_order) found []) (sym message)
