use Rattle.std.proofs.Common.{rules, ap}
use Rattle.tl_run.specs.Stops.{last_text, stop_text}
use Rattle.tl_run.proofs.LineLaws.{writes_more}
use Rattle.tl_run.proofs.lines.write_last.Goals as goal

pub returns-in_ok-write_stop-in-Some : goal.returns-in_ok-write_stop-in-Some
returns-in_ok-write_stop-in-Some g c =
    rw (ap last_text c.in-Some.is) (writes_more _ _ _ (stop_text c.in-Some.stop) _ _ _ _ c.write_notes.result (search rules) (search rules) c.write_notes.ensures)
