use Rattle.std.proofs.Common.{rules, refl, ◌≡◌, ◌+◌, Some, None, Ok, Err, sym, ap, ◌∙◌, subst}
use Rattle.tl_script.specs.Reading.{command_in}
use Rattle.tl_script.specs.Asked.{asked}
use Rattle.tl_run.specs.Output.{IsStep}
use Rattle.tl_run.proofs.RunLaws.{ran_none, ran_more, came_to_fault, came_to_end, came_to_want, came_to_lack, lawful, cut_there}
use Rattle.tl_run.proofs.run.run_commands.Goals as goal

pub loop-read-init : goal.loop-read-init
loop-read-init g c = record { setting = refl; quiet = refl; ran = ran_none g.S.Runner.noted _ c.args.script.now _ _ _ _ c.requires.new c.requires.empty }

pub returns-in-Err-clause-come : goal.returns-in-Err-clause-come
returns-in-Err-clause-come g c =
    let e : command_in c.loop-read.rest.now ≡ Err c.in-Err.fault = sym c.read_command.ensures.exact ∙ c.in-Err.is in
    rw (c.stopped.ensures, c.last_rows-last_rows.ensures, c.into.ensures) (came_to_fault _ _ c.args.script.now c.loop-read.rest.now c.loop-read.done _ _ _ _ _ _ c.loop-read.invariant.ran c.in-Err.fault e)

pub returns-in_default-clause-come : goal.returns-in_default-clause-come
returns-in_default-clause-come g c =
    let e : command_in c.loop-read.rest.now ≡ Ok None = sym c.read_command.ensures.exact ∙ c.in-Ok.is ∙ ap (λ r. Ok r) c.in_default.is in
    rw (c.last_rows-last_rows.ensures) (came_to_end _ _ c.args.script.now c.loop-read.rest.now c.loop-read.done _ _ _ _ _ _ c.loop-read.invariant.ran e)

pub run_command-requires-clause-lawful : goal.run_command-requires-clause-lawful
run_command-requires-clause-lawful g c =
    let e : command_in c.loop-read.rest.now ≡ Ok (Some (c.in-Some.command, c.in-Some.taken)) = sym c.read_command.ensures.exact ∙ c.in-Ok.is ∙ ap (λ r. Ok r) c.in-Some.is in
    lawful _ _ c.args.script.now c.loop-read.rest.now c.loop-read.done _ _ _ _ _ _ c.loop-read.invariant.ran c.in-Some.command c.in-Some.taken e

pub returns-in-Err-Memory-clause-come : goal.returns-in-Err-Memory-clause-come
returns-in-Err-Memory-clause-come g c =
    let same = c.run_command.ensures.memory (search rules) in
    rw (c.stopped-in-Err-Memory.ensures, c.last_rows-last_rows.ensures)
    (came_to_want _ _ c.args.script.now c.loop-read.rest.now c.loop-read.done _ _ _ _ _ _ c.loop-read.invariant.ran _ _ (ap (λ o. g.O.ByteOut.contents o) same.0) same.1)

pub returns-in-Err-WrongBox-clause-come : goal.returns-in-Err-WrongBox-clause-come
returns-in-Err-WrongBox-clause-come g c =
    let e : command_in c.loop-read.rest.now ≡ Ok (Some (c.in-Some.command, c.in-Some.taken)) = sym c.read_command.ensures.exact ∙ c.in-Ok.is ∙ ap (λ r. Ok r) c.in-Some.is in
    let lacks = c.run_command.ensures.lacks (search rules) in
    rw (c.stopped-in-Err-WrongBox.ensures, c.last_rows-last_rows.ensures)
    (came_to_lack _ _ c.args.script.now c.loop-read.rest.now c.loop-read.done _ _ _ _ _ _ c.loop-read.invariant.ran c.in-Some.command c.in-Some.taken _ _ e lacks.0 (ap (λ o. g.O.ByteOut.contents o) lacks.1) lacks.2)

pub returns-in-Err-WriteFault-clause-failed : goal.returns-in-Err-WriteFault-clause-failed
returns-in-Err-WriteFault-clause-failed g c =
    let e : command_in c.loop-read.rest.now ≡ Ok (Some (c.in-Some.command, c.in-Some.taken)) = sym c.read_command.ensures.exact ∙ c.in-Ok.is ∙ ap (λ r. Ok r) c.in-Some.is in
    let failed = c.run_command.ensures.failed (search rules) in
    let step = subst (λ t. IsStep t (g.S.Runner.so_far c.loop-read.runner).now (asked c.in-Some.command) failed.1.0 (g.S.Runner.so_far c.run_command.new.runner).now) c.loop-read.invariant.setting failed.1.1 in (
      failed.0 ∙ ap (λ n. n + 1) c.loop-read.invariant.quiet,
      cut_there _ _ c.args.script.now c.loop-read.rest.now c.loop-read.done _ _ _ _ _ _ c.loop-read.invariant.ran c.in-Some.command c.in-Some.taken failed.1.0 (g.S.Runner.so_far c.run_command.new.runner).now _ _ e step failed.1.2
          (failed.1.3 (g.O.ByteOut.contents c.args.out.now)),
    )

pub loop-read-preserved : goal.loop-read-preserved
loop-read-preserved g c =
    let e : command_in c.loop-read.rest.now ≡ Ok (Some (c.in-Some.command, c.in-Some.taken)) = sym c.read_command.ensures.exact ∙ c.in-Ok.is ∙ ap (λ r. Ok r) c.in-Some.is in
    let went = c.in-Ok-run_command.ensures.step in
    let step = subst (λ t. IsStep t (g.S.Runner.so_far c.loop-read.runner).now (asked c.in-Some.command) went.0 (g.S.Runner.so_far c.run_command.new.runner).now) c.loop-read.invariant.setting went.1 in
    record {
      setting = c.in-Ok-run_command.ensures.setting ∙ c.loop-read.invariant.setting;
      quiet = c.in-Ok-run_command.ensures.quiet ∙ c.loop-read.invariant.quiet;
      ran = rw (c.behind-rest.ensures) (ran_more _ _ c.args.script.now c.loop-read.rest.now c.loop-read.done _ _ _ _ _ _ _ _ _ _ c.in-Some.command c.in-Some.taken went.0 c.loop-read.invariant.ran e step went.2
          (went.3 (g.O.ByteOut.contents c.args.out.now)));
    }
