use Rattle.tl_check.proofs.StepLaws.{whatever, no_rows}
use Rattle.tl_apart.proofs.link_judge.LinkJudge.step_head.Goals as goal

pub returns-in-Some-clause-rows : goal.returns-in-Some-clause-rows
returns-in-Some-clause-rows c s shows = whatever c.pass.result (no_rows c.args.at.now _ c.args.found.now.rows.items (c.in-Some.ensures.rules s shows))
