use Rattle.std.proofs.Common.{◌++◌, ◌∷◌, [], Bool, append-nil, sym, ap, ◌∙◌}
use Rattle.std.specs.Prelude.{filter}
use Rattle.std.specs.List.{list_all}
use Rattle.std.specs.Option.{option_copied}
use Rattle.tl_tables.specs.declared.Rule.{Rule}
use Rattle.tl_tables.specs.declared.Rule.TheVariants as rule
use Rattle.tl_definitions.specs.Breaks.{later_order}
use Rattle.tl_link_rules.proofs.Picks.{told}
use Rattle.tl_midway.specs.Reading.{breaks_as}
use Rattle.tl_midway.specs.Readings.{shown_readings}
use Rattle.tl_midway.proofs.ReadingLaws.{sole_rules, sole_formed}
use Rattle.tl_midway.proofs.readings.Readings.later_rules.Goals as goal

pub check_later-requires-clause-head : goal.check_later-requires-clause-head
check_later-requires-clause-head c =
    let found = c.sole_head.ensures c.in-Some.head.now (ap option_copied c.in-Some.is) in
    sole_formed c.in-Some.head.now found.0 (shown_readings c.args.self.now) found.1 c.requires.formed

pub returns-in-Some : goal.returns-in-Some
returns-in-Some c =
    let found = c.sole_head.ensures c.in-Some.head.now (ap option_copied c.in-Some.is) in
    c.check_later.ensures ∙ sole_rules c.args.link.now c.args.beat.now c.in-Some.head.now found.0 (shown_readings c.args.self.now) found.1

pub returns : goal.returns
returns c =
    let broken : Rule → Bool = λ r. list_all (breaks_as c.args.link.now c.args.beat.now r) (shown_readings c.args.self.now) in
    sym (append-nil c.push_if-3.new.self)
    ∙ told broken rule.U1 [] _ _ c.breaks-3.ensures c.push_if-3.ensures.exact
    ∙ told broken rule.F7 (rule.U1 ∷ []) _ _ c.breaks-2.ensures c.push_if-2.ensures.exact
    ∙ told broken rule.F5 (rule.F7 ∷ rule.U1 ∷ []) _ _ c.breaks.ensures c.push_if.ensures.exact
    ∙ ap (λ rules. rules ++ filter broken later_order) c.new-rules.ensures
