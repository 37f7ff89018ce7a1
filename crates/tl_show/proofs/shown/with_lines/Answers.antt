use Rattle.std.proofs.Common.{take, ap, ◌∙◌}
use Rattle.tl_show.specs.Shown.{told_of_all}
use Rattle.tl_show.proofs.Noted.{noted_as}
use Rattle.tl_show.proofs.SurveyLaws.{shown_as}
use Rattle.tl_show.proofs.shown.with_lines.Goals as goal

pub returns-clause-shown : goal.returns-clause-shown
returns-clause-shown c =
    shown_as c.shown_text.result c.args.topo.now c.args.present.now c.args.head.now c.args.rows.now c.in_ok-survey.survey.told.items c.in_ok-survey.survey.counts
    (c.in_ok-survey.ensures.told ∙ ap (λ n. told_of_all c.args.topo.now c.args.present.now (take n c.args.rows.now)) c.shown_count-count.ensures.exact)
    c.shown_text.ensures

pub returns-clause-noted : goal.returns-clause-noted
returns-clause-noted c =
    noted_as c.shown_text.result c.args.topo.now c.args.head.now c.in_ok-survey.survey.told.items c.in_ok-survey.survey.counts c.args.rows.now c.link_count.ensures.named c.requires.links c.in_ok-survey.ensures.sound c.requires.head
    c.shown_text.ensures
