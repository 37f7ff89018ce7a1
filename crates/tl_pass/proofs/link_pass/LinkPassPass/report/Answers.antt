use Rattle.std.proofs.Common.{◌+◌, ◌++◌, List, sym, ap, subst, ◌∙◌, arith}
use Rattle.std.specs.Prelude.{◌↔◌}
use Rattle.std.specs.List.{Contains}
use Rattle.tl_definitions.specs.Positions.{Recorded}
use Rattle.tl_pass.specs.Reports.{IsReportIn}
use Rattle.tl_pass.specs.declared.pass.Found.{Found}
use Rattle.tl_pass.proofs.LinkPassLaws.{judged_more, judged_report}
use Rattle.tl_pass.proofs.LinkPassOwn.{own_found}
use Rattle.tl_pass.proofs.link_pass.LinkPassPass.report.Goals as goal

pub returns : goal.returns
returns c midway topo fs had =
    let pass = c.args.self in
    let own = c.in_ok-found.found in
    let all : List Recorded = had.done ++ pass.present in
    let found : Found = record { rows = c.sort_rows.result; lead_ins = c.saturating_add.result } in
    let items = c.in_ok-extend_from_slice.ensures.items ∙ ap (λ rs. pass.rows.items ++ rs) c.deref.ensures.value in
    subst (λ gs. IsReportIn midway topo gs found) (sym had.all)
    (judged_report midway topo (pass.link + 1) all (pass.rows.items ++ own.rows.items) found
    (judged_more midway topo pass.link (pass.link + 1) had.done pass.present pass.rows.items own.rows.items pass.lead_ins own.lead_ins c.saturating_add.result had.plain had.judged had.kept had.own
    (own_found midway topo fs pass had own c.in_ok-found.ensures) c.saturating_add.ensures (omega arith)) c.sort_rows.ensures.rises
    (λ row. subst (λ rs. Contains c.sort_rows.result.items row ↔ Contains rs row) items (c.sort_rows.ensures.members row)))
