use Rattle.std.proofs.Common.{None}
use Rattle.tl_pass.proofs.LinkPassLaws.{sorted_report, of_whole_run}
use Rattle.tl_pass.proofs.apart_pass.ApartPass.report.Goals as goal

pub returns : goal.returns
returns c midway topo fs had =
    let found = c.in_ok-rows.ensures topo fs had.1 in
    of_whole_run midway topo fs had.0 (record { rows = c.sort_rows.result; lead_ins = 0 })
    (sorted_report None topo fs c.in_ok-rows.field-0.items c.sort_rows.result.items found.0 found.1 c.sort_rows.ensures.rises c.sort_rows.ensures.members)
