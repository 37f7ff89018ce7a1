use Rattle.std.proofs.Common.{◌+◌, ap, sym, subst, [], ◌∙◌}
use Rattle.tl_check.specs.Notes.{Tells}
use Rattle.tl_run.proofs.LineLaws.{at_error}
use Rattle.tl_run.proofs.RunLaws.{end_cut, end_written}
use Rattle.tl_run.proofs.run.carry_out.Goals as goal

pub returns-in_err-write_end-clause-failed : goal.returns-in_err-write_end-clause-failed
returns-in_err-write_end-clause-failed g c =
    let failed = c.in_err-write_end.ensures.failed in
    let none = subst (Tells g.S.Runner.noted []) (sym c.as_str.ensures.value) c.last_notes-notes.ensures in
    at_error c.from_residual-in_err-write_end.result (
      failed.0 ∙ ap (λ n. n + 1) c.in_ok-outcome.ensures.quiet,
      end_cut g.S.Runner.noted _ _ _ _ _ _ _ c.as_str.result.now _ c.in_ok-outcome.ensures.come none (failed.1 (g.O.ByteOut.contents c.args.out.now)),
    )

pub returns-clause-written : goal.returns-clause-written
returns-clause-written g c =
    let none = subst (Tells g.S.Runner.noted []) (sym c.as_str.ensures.value) c.last_notes-notes.ensures in
    end_written g.S.Runner.noted _ _ _ _ _ _ _ c.as_str.result.now _ c.in_ok-outcome.ensures.come none (c.in_ok-write_end.ensures.said (g.O.ByteOut.contents c.args.out.now))
