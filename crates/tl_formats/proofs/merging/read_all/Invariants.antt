use Rattle.std.proofs.Common.{◌≡◌, take}
use Rattle.tl_formats.specs.Merging.{AreOnLinks, AreRead}
use Rattle.tl_formats.proofs.merging.read_all.Given as goal

abbrev pub invariant-loop-place : goal.invariant-loop-place
invariant-loop-place l = record {
  read : AreRead l.topo (take l.place l.texts) l.reports.items;
  links : AreOnLinks l.topo l.reports.items;
}
