use Rattle.std.proofs.Common.{◌++◌, subst}
use Rattle.std.specs.Prelude.{string_bytes}
use Rattle.tl_check.specs.Notes.{Tells}
use Rattle.tl_run.specs.Output.{IsStep, TakesBox, text_of}
use Rattle.tl_run.specs.Stops.{IsSaid, IsFront}
use Rattle.tl_run.proofs.LineLaws.{said_more, said_front}
use Rattle.tl_script.proofs.AcceptedLaws.{when_done}
use Rattle.tl_run.proofs.run.run_command.Goals as goal

pub returns-clause-step : goal.returns-clause-step
returns-clause-step g c =
    let old = g.S.Runner.so_far c.args.runner.now in
    let line = text_of old.setting.topo c.in_ok-answer.answer in
    let text = string_bytes c.in_ok-lines.lines in
    let step = subst (λ a. IsStep old.setting old.now a line (g.S.Runner.so_far c.answer.new.self).now) c.in_ok-asked.ensures c.in_ok-answer.ensures.step in
    let boxes = subst (λ a. TakesBox old.boxes a (g.S.Runner.so_far c.answer.new.self).boxes) c.in_ok-asked.ensures c.in_ok-answer.ensures.boxes in
    let tells = subst (λ t. Tells g.S.Runner.noted (text_of t.topo c.in_ok-answer.answer) text) c.in_ok-answer.ensures.setting c.in_ok-lines.ensures in
    when_done c.put_lines.result (λ said. (
      line,
      step,
      boxes,
      λ first before has.
          said_more g.S.Runner.noted first (g.O.ByteOut.contents c.args.out.now) (g.O.ByteOut.contents c.put_lines.new.out) (string_bytes c.args.gathered.now) (string_bytes c.put_lines.new.gathered) before line text tells
          (λ told is. subst (λ l. IsSaid first (g.O.ByteOut.contents c.put_lines.new.out) (string_bytes c.put_lines.new.gathered) (told ++ l)) c.as_str.ensures.value (said first told is))
          has,
    ))
    c.put_lines.ensures.said

pub returns-clause-failed : goal.returns-clause-failed
returns-clause-failed g c h =
    let old = g.S.Runner.so_far c.args.runner.now in
    let line = text_of old.setting.topo c.in_ok-answer.answer in
    let text = string_bytes c.in_ok-lines.lines in
    let step = subst (λ a. IsStep old.setting old.now a line (g.S.Runner.so_far c.answer.new.self).now) c.in_ok-asked.ensures c.in_ok-answer.ensures.step in
    let boxes = subst (λ a. TakesBox old.boxes a (g.S.Runner.so_far c.answer.new.self).boxes) c.in_ok-asked.ensures c.in_ok-answer.ensures.boxes in
    let tells = subst (λ t. Tells g.S.Runner.noted (text_of t.topo c.in_ok-answer.answer) text) c.in_ok-answer.ensures.setting c.in_ok-lines.ensures in
    let failed = c.put_lines.ensures.failed h in (
      failed.0,
      (
        line,
        step,
        boxes,
        λ first before has.
            said_front g.S.Runner.noted first (g.O.ByteOut.contents c.args.out.now) (g.O.ByteOut.contents c.put_lines.new.out) (string_bytes c.args.gathered.now) before line text tells
            (λ told is. subst (λ l. IsFront first (g.O.ByteOut.contents c.put_lines.new.out) (told ++ l)) c.as_str.ensures.value (failed.1 first told is))
            has,
      ),
    )
