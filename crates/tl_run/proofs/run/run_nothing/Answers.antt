use Rattle.std.proofs.Common.{rules}
use Rattle.tl_check.proofs.NoteLaws.{tells_nil}
use Rattle.tl_run.proofs.LineLaws.{at_error}
use Rattle.tl_run.proofs.RunLaws.{came_to_nothing, end_cut, end_written}
use Rattle.tl_run.proofs.run.run_nothing.Goals as goal

pub returns-in_err-write_end-clause-failed : goal.returns-in_err-write_end-clause-failed
returns-in_err-write_end-clause-failed g c =
    let failed = c.in_err-write_end.ensures.failed in
    at_error c.from_residual.result (
      failed.0,
      λ noted setting script boxes.
          end_cut noted setting script boxes _ _ _ _ _ c.stopped.result.outcome (rw (c.stopped.ensures) (came_to_nothing noted setting script _ boxes _ (search rules))) (tells_nil noted) (failed.1 (g.O.ByteOut.contents c.args.out.now)),
    )

pub returns-clause-written : goal.returns-clause-written
returns-clause-written g c noted setting script boxes =
    end_written noted setting script boxes _ _ _ _ _ c.stopped.result.outcome (rw (c.stopped.ensures) (came_to_nothing noted setting script _ boxes _ (search rules))) (tells_nil noted) (c.in_ok-write_end.ensures.said (g.O.ByteOut.contents c.args.out.now))
