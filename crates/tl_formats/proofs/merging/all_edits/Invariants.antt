use Rattle.std.proofs.Common.{◌≡◌, take}
use Rattle.std.specs.List.{sum_by}
use Rattle.tl_formats.specs.Merging.{edits_in}
use Rattle.tl_formats.proofs.merging.all_edits.Given as goal

abbrev pub invariant-loop-report : goal.invariant-loop-report
invariant-loop-report l = l.edits ≡ sum_by edits_in (take l.report-index l.reports)
