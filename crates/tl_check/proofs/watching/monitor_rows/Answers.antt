use Rattle.std.proofs.Common.{List, [], ◌∷◌, ap, subst}
use Rattle.tl_beats.specs.declared.Row.{Row}
use Rattle.tl_beats.specs.declared.watch.Watch.{Watch}
use Rattle.tl_definitions.specs.Report.{of_monitor, IsReport}
use Rattle.tl_monitor.specs.Held.{Held}
use Rattle.tl_check.proofs.MonitorLaws.{pass_is_report}
use Rattle.tl_check.proofs.watching.monitor_rows.Goals as goal

pub returns : goal.returns
returns g c =
    let rows : List Row = c.in_ok-checked.checked.rows.items in
    let w : Watch = c.new-watched.result.watch in
    subst (λ (w : Watch). IsReport (of_monitor c.args.number w c.args.beats.now ∷ []) rows) (ap (λ (m : Held). m.watch) c.new-watched.ensures)
    (pass_is_report c.args.number w c.args.beats.now c.in_ok-checked.checked.tally rows c.watch.ensures.fits c.in_ok-checked.ensures.pass)
