use Rattle.std.proofs.Common.{◌≡◌, ◌∙◌, sym, ap, refl, rules, Some, None}
use Rattle.std.specs.Option.{option_copied}
use Rattle.tl_check.specs.Output.{row_text, link_text}
use Rattle.tl_check.proofs.Texts.{in_words, link_named}
use Rattle.tl_check.proofs.report.row_text.Goals as goal

pub returns-in-Some : goal.returns-in-Some
unfolding row_text
returns-in-Some c =
    let link : link_text c.args.topo.now c.args.row.now.link ≡ c.unwrap.result.now.name = link_named _ c.unwrap.result.now (ap option_copied (sym c.unwrap.ensures) ∙ c.link.ensures.exact) in
    let monitor : c.args.row.now.monitor ≡ Some c.in-Some.monitor = search rules in
    in_words c.format.result _ (row_text c.args.topo.now c.args.row.now) c.format.ensures.ok (rw (link, c.rule_text-rule.ensures, monitor) refl)

pub returns-in-None : goal.returns-in-None
unfolding row_text
returns-in-None c =
    let link : link_text c.args.topo.now c.args.row.now.link ≡ c.unwrap.result.now.name = link_named _ c.unwrap.result.now (ap option_copied (sym c.unwrap.ensures) ∙ c.link.ensures.exact) in
    let monitor : c.args.row.now.monitor ≡ None = search rules in
    in_words c.format-in-None.result _ (row_text c.args.topo.now c.args.row.now) c.format-in-None.ensures.ok (rw (link, c.rule_text-rule.ensures, monitor) refl)
