use Rattle.std.proofs.Common.{rules, ◌≡◌, Some, subst}
use Rattle.tl_beats.specs.declared.watch.Watch.{Watch}
use Rattle.tl_edits.specs.Edits.{attach}
use Rattle.tl_script.specs.Asked.{an_edit}
use Rattle.tl_run.specs.Output.{IsStep, text_of}
use Rattle.tl_workers.specs.Crew.{progress_in, rows_in}
use Rattle.tl_workers.proofs.Knowing.{attach_answer, edits_linked}
use Rattle.tl_workers.proofs.crew.Crew.attach.Goals as goal

pub returns-clause-step : goal.returns-clause-step
returns-clause-step g c =
    let s = c.self.inside in
    let p = c.unwrap-pass.result in
    let is : s.pass ≡ Some p = search rules in
    let q = c.attach_one-pass.result.0 in
    let found = c.in_ok-of_edit.field-0 in
    subst (λ (w : Watch). IsStep c.args.self.now.setting c.args.self.now.now (an_edit (attach c.args.number w)) (text_of c.args.self.now.setting.topo found) (progress_in q.seen (rows_in s.last))) c.in-Some.ensures.same
    (attach_answer s.hall.now s.topo.now s.pass (rows_in s.last) s.boxes c.args.self.now c.self.view_is c.self.invariant p is c.args.number (g.M.Monitor.held c.in-Some.monitor).watch c.attach_one-pass.result.1 q found c.attach_one-pass.ensures.ok c.attach_one-pass.ensures.err c.in_ok-of_edit.ensures)

pub returns-clause-links : goal.returns-clause-links
returns-clause-links g c = edits_linked c.args.self.now.setting.topo c.attach_one-pass.result.1 c.in_ok-of_edit.field-0 c.in_ok-of_edit.ensures
