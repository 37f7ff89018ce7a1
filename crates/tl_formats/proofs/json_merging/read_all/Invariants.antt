use Rattle.std.proofs.Common.{take}
use Rattle.tl_formats.specs.JsonReports.{AreJson, AreOfTheirLines}
use Rattle.tl_formats.proofs.json_merging.read_all.Given as goal

abbrev pub invariant-loop-place : goal.invariant-loop-place
invariant-loop-place l = record {
  read : AreJson (take l.place l.texts) l.reports.items;
  told : AreOfTheirLines l.topo l.reports.items;
}
