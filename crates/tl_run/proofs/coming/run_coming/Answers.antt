use Rattle.std.proofs.Common.{rules, refl, ◌≡◌, ◌+◌, Some, None, Ok, Err, sym, ap, ◌∙◌, subst, arith}
use Rattle.tl_stream.specs.Feeds.{all_left}
use Rattle.tl_script.specs.Reading.{command_in}
use Rattle.tl_script.proofs.CommandTexts.{in_starts}
use Rattle.tl_script.specs.Asked.{asked}
use Rattle.tl_run.specs.Output.{IsStep}
use Rattle.tl_run.proofs.ComingLaws.{came_none, came_kept, came_more, came_cut, came_unread, came_want, came_last, came_fault, came_end}
use Rattle.tl_run.proofs.coming.run_coming.Goals as goal

pub loop-done-init : goal.loop-done-init
loop-done-init g c = record {
  setting = refl;
  none = c.requires.none;
  quiet = refl;
  read = refl;
  empty = c.requires.empty;
  came = came_none g.S.Runner.noted _ (g.I.ByteIn.remaining c.args.input.now) c.args.ahead.now _ _ _ c.requires.unread c.requires.new c.requires.empty;
}

pub returns-in-Err-Memory-clause-come : goal.returns-in-Err-Memory-clause-come
returns-in-Err-Memory-clause-come g c =
    rw (c.stopped.ensures, c.last_rows-last_rows.ensures) (came_want g.S.Runner.noted _ (g.I.ByteIn.remaining c.args.input.now) _ c.loop-done.done _ _ _ _ _ _ c.loop-done.invariant.came refl refl)

pub returns-in-Err-ReadFault-clause-unread : goal.returns-in-Err-ReadFault-clause-unread
returns-in-Err-ReadFault-clause-unread g c h =
    let found = c.read_on.ensures.unread (search rules) in
    let came = came_kept g.S.Runner.noted _ (g.I.ByteIn.remaining c.args.input.now) (all_left c.loop-done.ahead (g.I.ByteIn.remaining c.loop-done.input)) (all_left c.read_on.new.ahead (g.I.ByteIn.remaining c.read_on.new.input)) c.loop-done.done _ _ _ _
    c.loop-done.invariant.came found.2 in
    let count : g.I.ByteIn.failure_count c.read_on.new.input ≡ g.I.ByteIn.failure_count c.args.input.now + 1 = found.0 ∙ ap (λ n. n + 1) c.loop-done.invariant.read in
    (omega (arith, count), came_unread g.S.Runner.noted _ (g.I.ByteIn.remaining c.args.input.now) c.read_on.new.ahead (g.I.ByteIn.remaining c.read_on.new.input) c.loop-done.done _ _ _ _ came c.loop-done.invariant.empty found.1)

pub returns-in-Err-TooLong-clause-too_long : goal.returns-in-Err-TooLong-clause-too_long
returns-in-Err-TooLong-clause-too_long g c h =
    let found = c.read_on.ensures.too_long (search rules) in
    let came = came_kept g.S.Runner.noted _ (g.I.ByteIn.remaining c.args.input.now) (all_left c.loop-done.ahead (g.I.ByteIn.remaining c.loop-done.input)) (all_left c.read_on.new.ahead (g.I.ByteIn.remaining c.read_on.new.input)) c.loop-done.done _ _ _ _
    c.loop-done.invariant.came found.1 in
    came_unread g.S.Runner.noted _ (g.I.ByteIn.remaining c.args.input.now) c.read_on.new.ahead (g.I.ByteIn.remaining c.read_on.new.input) c.loop-done.done _ _ _ _ came c.loop-done.invariant.empty found.0

pub returns-in-Err-clause-come : goal.returns-in-Err-clause-come
returns-in-Err-clause-come g c =
    let came = came_kept g.S.Runner.noted _ (g.I.ByteIn.remaining c.args.input.now) (all_left c.loop-done.ahead (g.I.ByteIn.remaining c.loop-done.input)) (all_left c.read_on.new.ahead (g.I.ByteIn.remaining c.read_on.new.input)) c.loop-done.done _ _ _ _
    c.loop-done.invariant.came c.in-Ok.ensures.kept in
    let e : command_in c.read_on.new.ahead ≡ Err c.in-Err.fault = ap command_in (sym c.left-left.ensures) ∙ sym c.read_command.ensures.exact ∙ c.in-Err.is in
    rw (c.stopped-in-Err.ensures, c.last_rows-last_rows.ensures, c.into.ensures)
    (came_fault g.S.Runner.noted _ (g.I.ByteIn.remaining c.args.input.now) c.read_on.new.ahead (g.I.ByteIn.remaining c.read_on.new.input) c.loop-done.done _ _ _ _ came c.in-Ok.ensures.first c.in-Err.fault e)

pub returns-in_default-clause-come : goal.returns-in_default-clause-come
returns-in_default-clause-come g c =
    let came = came_kept g.S.Runner.noted _ (g.I.ByteIn.remaining c.args.input.now) (all_left c.loop-done.ahead (g.I.ByteIn.remaining c.loop-done.input)) (all_left c.read_on.new.ahead (g.I.ByteIn.remaining c.read_on.new.input)) c.loop-done.done _ _ _ _
    c.loop-done.invariant.came c.in-Ok.ensures.kept in
    let e : command_in c.read_on.new.ahead ≡ Ok None = ap command_in (sym c.left-left.ensures) ∙ sym c.read_command.ensures.exact ∙ c.in-Ok-read_command.is ∙ ap (λ r. Ok r) c.in_default.is in
    rw (c.last_rows-last_rows.ensures)
    (came_end g.S.Runner.noted _ (g.I.ByteIn.remaining c.args.input.now) c.read_on.new.ahead (g.I.ByteIn.remaining c.read_on.new.input) c.loop-done.done _ _ _ _ came c.in-Ok.ensures.first e)

pub run_at_once-requires-clause-lawful : goal.run_at_once-requires-clause-lawful
run_at_once-requires-clause-lawful g c =
    let e : command_in c.read_on.new.ahead ≡ Ok (Some (c.in-Some.command, c.in-Some.taken)) = ap command_in (sym c.left-left.ensures) ∙ sym c.read_command.ensures.exact ∙ c.in-Ok-read_command.is ∙ ap (λ r. Ok r) c.in-Some.is in
    let law = in_starts c.read_on.new.ahead c.in-Some.command c.in-Some.taken e in
    law.lawful

pub returns-in-Err-Memory-run_at_once-clause-come : goal.returns-in-Err-Memory-run_at_once-clause-come
returns-in-Err-Memory-run_at_once-clause-come g c =
    let same = c.run_at_once.ensures.memory (search rules) in
    rw (c.stopped-in-Err-Memory-run_at_once.ensures, c.last_rows-last_rows.ensures)
    (came_want g.S.Runner.noted _ (g.I.ByteIn.remaining c.args.input.now) _ c.loop-done.done _ _ _ _ _ _ c.loop-done.invariant.came (ap (λ o. g.O.ByteOut.contents o) same.0) same.1)

pub returns-in-Err-WriteFault-clause-failed : goal.returns-in-Err-WriteFault-clause-failed
returns-in-Err-WriteFault-clause-failed g c h =
    let came = came_kept g.S.Runner.noted _ (g.I.ByteIn.remaining c.args.input.now) (all_left c.loop-done.ahead (g.I.ByteIn.remaining c.loop-done.input)) (all_left c.read_on.new.ahead (g.I.ByteIn.remaining c.read_on.new.input)) c.loop-done.done _ _ _ _
    c.loop-done.invariant.came c.in-Ok.ensures.kept in
    let e : command_in c.read_on.new.ahead ≡ Ok (Some (c.in-Some.command, c.in-Some.taken)) = ap command_in (sym c.left-left.ensures) ∙ sym c.read_command.ensures.exact ∙ c.in-Ok-read_command.is ∙ ap (λ r. Ok r) c.in-Some.is in
    let failed = c.run_at_once.ensures.failed (search rules) in
    let step = subst (λ t. IsStep t (g.S.Runner.so_far c.loop-done.runner).now (asked c.in-Some.command) failed.1.0 (g.S.Runner.so_far c.run_at_once.new.runner).now) c.loop-done.invariant.setting failed.1.1 in (
      failed.0 ∙ ap (λ n. n + 1) c.loop-done.invariant.quiet,
      came_cut g.S.Runner.noted _ (g.I.ByteIn.remaining c.args.input.now) c.read_on.new.ahead (g.I.ByteIn.remaining c.read_on.new.input) c.loop-done.done _ (g.S.Runner.so_far c.run_at_once.new.runner).now _ _ _ _ c.in-Some.command c.in-Some.taken failed.1.0
          came c.in-Ok.ensures.first e step (failed.1.3 (g.O.ByteOut.contents c.args.out.now)),
    )

pub returns-clause-come : goal.returns-clause-come
returns-clause-come g c =
    rw (c.stopped-2.ensures, c.last_rows.ensures)
    (came_last g.S.Runner.noted _ (g.I.ByteIn.remaining c.args.input.now) (all_left c.loop-done.ahead (g.I.ByteIn.remaining c.loop-done.input)) c.loop-done.done _ _ _ _ _ c.loop-done.invariant.came (search rules))

pub loop-done-preserved : goal.loop-done-preserved
loop-done-preserved g c =
    let came = came_kept g.S.Runner.noted _ (g.I.ByteIn.remaining c.args.input.now) (all_left c.loop-done.ahead (g.I.ByteIn.remaining c.loop-done.input)) (all_left c.read_on.new.ahead (g.I.ByteIn.remaining c.read_on.new.input)) c.loop-done.done _ _ _ _
    c.loop-done.invariant.came c.in-Ok.ensures.kept in
    let e : command_in c.read_on.new.ahead ≡ Ok (Some (c.in-Some.command, c.in-Some.taken)) = ap command_in (sym c.left-left.ensures) ∙ sym c.read_command.ensures.exact ∙ c.in-Ok-read_command.is ∙ ap (λ r. Ok r) c.in-Some.is in
    let went = c.in-Ok-run_at_once.ensures.step in
    let step = subst (λ t. IsStep t (g.S.Runner.so_far c.loop-done.runner).now (asked c.in-Some.command) went.0 (g.S.Runner.so_far c.run_at_once.new.runner).now) c.loop-done.invariant.setting went.1 in
    record {
      setting = c.in-Ok-run_at_once.ensures.setting ∙ c.loop-done.invariant.setting;
      none = c.in-Ok-run_at_once.ensures.none;
      quiet = c.in-Ok-run_at_once.ensures.quiet ∙ c.loop-done.invariant.quiet;
      read = c.in-Ok.ensures.quiet ∙ c.loop-done.invariant.read;
      empty = c.in-Ok-run_at_once.ensures.written;
      came = rw (c.pass.ensures)
          (came_more g.S.Runner.noted _ (g.I.ByteIn.remaining c.args.input.now) c.read_on.new.ahead (g.I.ByteIn.remaining c.read_on.new.input) c.loop-done.done _ _ _ _ _ _ _ c.in-Some.command c.in-Some.taken went.0 came c.in-Ok.ensures.first e step
          (went.3 (g.O.ByteOut.contents c.args.out.now)));
    }
