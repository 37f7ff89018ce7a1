use Rattle.std.proofs.Common.{subst}
use Rattle.std.specs.List.{flat_map}
use Rattle.tl_formats.specs.JsonReports.{json_link, json_rows}
use Rattle.tl_formats.specs.Merging.{IsByLink}
use Rattle.tl_formats.proofs.json_merging.merge_json.Goals as goal

pub returns : goal.returns
returns c = record {
  reports = c.in_ok-reports.reports.items;
  read = c.in_ok-reports.ensures.read;
  told = c.in_ok-reports.ensures.told;
  merged = c.in_ok-made.ensures.0;
  merge = subst (λ reports. IsByLink json_link (flat_map json_rows reports) c.in_ok-made.ensures.0) c.deref.ensures.value c.in_ok-made.ensures.1;
  made_is = c.in_ok-made.ensures.2;
}
