use Rattle.std.proofs.Common.{◌≡◌, take}
use Rattle.std.specs.List.{flat_map}
use Rattle.tl_formats.proofs.by_link.all_rows.Given as goal

abbrev pub invariant-loop-report : goal.invariant-loop-report
invariant-loop-report g l = l.rows.items ≡ flat_map g.R.HasRows.lines (take l.report-index l.reports)
