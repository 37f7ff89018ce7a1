use Rattle.std.proofs.Common.{◌++◌, [], ap, subst, ◌∙◌}
use Rattle.std.specs.Prelude.{map}
use Rattle.tl_beats.specs.Beats.{IsWellFormed}
use Rattle.tl_definitions.specs.Breaks.{row_of}
use Rattle.tl_definitions.specs.Events.{with_event}
use Rattle.tl_link_rules.specs.Bursts.{slot_at}
use Rattle.tl_apart.specs.Events.{said}
use Rattle.tl_check.proofs.LinkLaws.{later_is_taken}
use Rattle.tl_check.proofs.PlainLinkLaws.{still_formed}
use Rattle.tl_check.proofs.StepLaws.{on_ok}
use Rattle.tl_apart.specs.LinkJudge.{Shows}
use Rattle.tl_apart.proofs.JudgeLaws.{rules_alone, next_alone, event_alone}
use Rattle.tl_apart.proofs.link_judge.LinkJudge.step.Goals as goal

pub returns-then-keeps_burst-clause-formed : goal.returns-then-keeps_burst-clause-formed
returns-then-keeps_burst-clause-formed c = still_formed c.args.terms.now.decl.now c.args.at.now.beat c.args.self.now.bursts _ c.requires.beat c.requires.formed c.pass.ensures

pub check_later-later-requires-clause-head : goal.check_later-later-requires-clause-head
check_later-later-requires-clause-head c =
    let p = c.args.at.now in
    let found = later_is_taken c.head.result c.in-Some.head (slot_at c.args.self.now.bursts p.beat.chan) c.head.ensures c.in-Some.is in
    subst IsWellFormed found.2 (c.requires.formed p.beat.chan found.0 found.1)

pub returns-in_ok-add_rows-in-Some-clause-formed : goal.returns-in_ok-add_rows-in-Some-clause-formed
returns-in_ok-add_rows-in-Some-clause-formed c =
    still_formed c.args.terms.now.decl.now c.args.at.now.beat c.args.self.now.bursts _ c.requires.beat c.requires.formed c.pass-in-Some.ensures

pub returns-in-None-clause-rows : goal.returns-in-None-clause-rows
returns-in-None-clause-rows c m s serves shows =
    on_ok c.step_head.result
    (λ is. is ∙ ap (λ rules. c.args.found.now.rows.items ++ map (row_of c.args.at.now) rules) (rules_alone m c.args.terms.now s c.args.at.now serves))
    (c.step_head.ensures.rows s shows)

pub returns-in-None-clause-next : goal.returns-in-None-clause-next
returns-in-None-clause-next c m s serves shows =
    on_ok c.step_head.result (subst (Shows c.args.terms.now.exponent _) (next_alone m c.args.terms.now s c.args.at.now serves)) (c.step_head.ensures.next s shows)

pub returns-in-None-clause-events : goal.returns-in-None-clause-events
returns-in-None-clause-events c m s serves shows =
    on_ok c.step_head.result
    (λ is. is ∙ ap (λ event. map said c.args.found.now.events.items ++ with_event event []) (event_alone m c.args.terms.now s c.args.at.now serves))
    (c.step_head.ensures.events s shows)
