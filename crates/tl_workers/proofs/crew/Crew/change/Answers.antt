use Rattle.std.proofs.Common.{rules, ◌≡◌, Some}
use Rattle.tl_hall.proofs.Passing.{if_ok}
use Rattle.tl_run.specs.Output.{IsAnswerTo}
use Rattle.tl_workers.specs.Crew.{rows_in}
use Rattle.tl_workers.proofs.Knowing.{change_answer, edits_linked}
use Rattle.tl_workers.proofs.crew.Crew.change.Goals as goal

pub returns-clause-step : goal.returns-clause-step
returns-clause-step g c =
    let s = c.self.inside in
    let p = c.unwrap-pass.result in
    let is : s.pass ≡ Some p = search rules in
    let answer = c.submit-pass.result.1 in
    if_ok (IsAnswerTo answer) _ c.of_edit.result
    (λ found said. change_answer s.hall.now s.topo.now s.pass (rows_in s.last) s.boxes c.args.self.now c.self.view_is c.self.invariant p is c.args.change answer c.submit-pass.result.0 found c.submit-pass.ensures.ok c.submit-pass.ensures.err said)
    c.of_edit.ensures

pub returns-clause-links : goal.returns-clause-links
returns-clause-links g c = if_ok (IsAnswerTo c.submit-pass.result.1) _ c.of_edit.result (λ found said. edits_linked c.args.self.now.setting.topo c.submit-pass.result.1 found said) c.of_edit.ensures
