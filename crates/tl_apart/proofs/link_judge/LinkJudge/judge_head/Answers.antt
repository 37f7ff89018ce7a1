use Rattle.std.proofs.Common.{◌++◌, sym, ap, ◌∙◌}
use Rattle.std.specs.Prelude.{map}
use Rattle.tl_definitions.specs.Breaks.{row_of}
use Rattle.tl_check.proofs.PlainLinkLaws.{still_formed}
use Rattle.tl_check.proofs.StepLaws.{on_ok}
use Rattle.tl_apart.specs.LinkJudge.{alone, message_rules}
use Rattle.tl_apart.proofs.JudgeLaws.{head_is_judged, put_both}
use Rattle.tl_apart.proofs.link_judge.LinkJudge.judge_head.Goals as goal

pub returns-in-Some-clause-rows : goal.returns-in-Some-clause-rows
returns-in-Some-clause-rows c s shows =
    let p = c.args.at.now in
    let terms = c.args.terms.now in
    let o = c.in-Some.op in
    let first = c.args.found.now.rows.items in
    on_ok c.judge_message.result
    (λ two. put_both p c.check_head-format.result (message_rules (alone terms) s p o) first c.add_rows.new.rows.items c.judge_message.new.found.rows.items
    c.in_ok-add_rows.ensures two
    ∙ ap (λ rules. first ++ map (row_of p) rules)
    (ap (λ rules. rules ++ message_rules (alone terms) s p o) c.check_head-format.ensures
    ∙ head_is_judged (alone terms) s p o (sym (shows.bursts p.beat.chan) ∙ c.requires.head) (sym c.op_of.ensures ∙ c.in-Some.is)))
    (c.judge_message.ensures.rows s shows)

pub returns-clause-formed : goal.returns-clause-formed
returns-clause-formed c = still_formed c.args.terms.now.decl.now c.args.at.now.beat c.args.self.now.bursts _ c.requires.beat c.requires.formed c.pass.ensures
