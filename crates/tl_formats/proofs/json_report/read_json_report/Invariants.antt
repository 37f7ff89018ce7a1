use Rattle.std.proofs.Common.{◌≡◌, ◌++◌, length, map}
use Rattle.std.specs.List.{All}
use Rattle.tl_text.specs.Words.{lines_of}
use Rattle.tl_formats.specs.JsonReports.{line_in, IsOfItsLine}
use Rattle.tl_formats.proofs.json_report.read_json_report.Given as goal

abbrev pub invariant-loop-next : goal.invariant-loop-next
invariant-loop-next l = record {
  lines : lines_of l.text ≡ map line_in l.rows.items ++ lines_of l.rest;
  told : All (IsOfItsLine l.topo) l.rows.items;
}

abbrev pub decreases-loop-next : goal.decreases-loop-next
decreases-loop-next l = length l.rest
