use Rattle.std.proofs.Common.{rules, ◌++◌}
use Rattle.tl_run.specs.Stops.{last_text}
use Rattle.tl_run.proofs.LineLaws.{front_more, at_error, stop_written, stop_cut}
use Rattle.tl_run.proofs.lines.write_end.Goals as goal

pub returns-in_err-write_gathered-clause-failed : goal.returns-in_err-write_gathered-clause-failed
returns-in_err-write_gathered-clause-failed g c =
    at_error c.from_residual.result (search rules, λ old lines said. front_more old _ lines (last_text c.args.stop ++ c.args.notes.now) (search rules))

pub returns-clause-said : goal.returns-clause-said
returns-clause-said g c =
    stop_written _ _ _ _ _ (last_text c.args.stop ++ c.args.notes.now) _ _ c.in_ok-write_gathered.ensures.empty c.in_ok-write_gathered.ensures.said c.write_last.result c.write_last.ensures

pub returns-clause-failed : goal.returns-clause-failed
returns-clause-failed g c =
    rw (← c.in_ok-write_gathered.ensures.quiet)
    (stop_cut _ _ _ _ _ (last_text c.args.stop ++ c.args.notes.now) _ _ c.in_ok-write_gathered.ensures.empty c.in_ok-write_gathered.ensures.said c.write_last.result c.write_last.ensures)
