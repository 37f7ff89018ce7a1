use Rattle.std.proofs.Common.{◌≡◌, take, map}
use Rattle.tl_formats.specs.Merging.{as_row}
use Rattle.tl_formats.proofs.report_row.as_rows.Given as goal

abbrev pub invariant-loop-row : goal.invariant-loop-row
invariant-loop-row l = l.made.items ≡ map as_row (take l.row-index l.rows)
