use Rattle.std.proofs.Common.{None, ◌∙◌}
use Rattle.tl_pass.specs.Reports.{standing}
use Rattle.tl_pass.proofs.LinkPassLaws.{sorted_report}
use Rattle.tl_pass.proofs.beside.Beside.report.Goals as goal

pub returns : goal.returns
returns c topo fs had =
    let found = c.in_ok-rows.ensures topo (standing topo fs) had.has in (
      c.in-Some.ensures topo (standing topo fs) had.has ∙ had.long,
      record { rows = sorted_report None topo (standing topo fs) c.in_ok-rows.rows.items c.sort_rows.result.items found.0 found.1 c.sort_rows.ensures.rises c.sort_rows.ensures.members; lead_ins = tt },
    )
