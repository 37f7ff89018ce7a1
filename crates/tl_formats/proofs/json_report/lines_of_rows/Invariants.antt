use Rattle.std.proofs.Common.{◌≡◌, take}
use Rattle.tl_formats.specs.JsonReports.{lines_text}
use Rattle.tl_formats.proofs.json_report.lines_of_rows.Given as goal

abbrev pub invariant-loop-row : goal.invariant-loop-row
invariant-loop-row l = l.text.items ≡ lines_text (take l.row-index l.rows)
