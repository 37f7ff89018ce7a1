use Rattle.std.proofs.Common.{◌+◌, [], ap, sym, subst, ◌∙◌}
use Rattle.tl_check.specs.Notes.{Tells}
use Rattle.tl_run.proofs.ComingLaws.{coming_cut, coming_written}
use Rattle.tl_run.proofs.coming.carry_out_coming.Goals as goal

pub returns-in_err-write_end-clause-failed : goal.returns-in_err-write_end-clause-failed
returns-in_err-write_end-clause-failed g c h =
    let failed = c.in_err-write_end.ensures.failed in
    let none = subst (Tells g.S.Runner.noted []) (sym c.as_str.ensures.value) c.last_notes-notes.ensures in (
      failed.0 ∙ ap (λ n. n + 1) c.in_ok-outcome.ensures.quiet,
      coming_cut g.S.Runner.noted _ (g.I.ByteIn.remaining c.args.input.now) _ _ _ _ c.as_str.result.now _ c.in_ok-outcome.ensures.come none (failed.1 (g.O.ByteOut.contents c.args.out.now)),
    )

pub returns-clause-written : goal.returns-clause-written
returns-clause-written g c =
    let none = subst (Tells g.S.Runner.noted []) (sym c.as_str.ensures.value) c.last_notes-notes.ensures in
    coming_written g.S.Runner.noted _ (g.I.ByteIn.remaining c.args.input.now) _ _ _ _ c.as_str.result.now _ c.in_ok-outcome.ensures.come none (c.in_ok-write_end.ensures.said (g.O.ByteOut.contents c.args.out.now))
