use Rattle.std.proofs.Common.{subst}
use Rattle.tl_formats.specs.Merging.{IsMerge}
use Rattle.tl_formats.proofs.merging.merge_plain.Goals as goal

pub returns : goal.returns
returns c = record {
  reports = c.in_ok-reports.reports.items;
  read = c.in_ok-reports.ensures.read;
  merged = c.in_ok-made.ensures.0;
  merge = subst (λ reports. IsMerge reports c.in_ok-made.ensures.0) c.deref.ensures.value c.in_ok-made.ensures.1;
  made_is = c.in_ok-made.ensures.2;
}
