use Rattle.std.proofs.Common.{Some, None, sym, subst}
use Rattle.std.specs.Arc.{arc_value}
use Rattle.tl_pass.specs.Reports.{IsFoundIn}
use Rattle.tl_pass.proofs.link_pass.LinkPass.found.Goals as goal

pub returns-in_ok-check_all-in-None : goal.returns-in_ok-check_all-in-None
returns-in_ok-check_all-in-None c =
    let pass = c.args.self.now in
    let rows = c.in_ok-check_all-in-None.field-0.items in
    subst (λ midway. IsFoundIn midway (arc_value pass.topo) pass.present rows 0) (sym c.in-None.is)
    (subst (λ topo. IsFoundIn None topo pass.present rows 0) c.deref.ensures (record { members = c.in_ok-check_all-in-None.ensures.report.members; counted = tt }))

pub returns-in_ok-found-in-Some : goal.returns-in_ok-found-in-Some
returns-in_ok-found-in-Some c =
    let pass = c.args.self.now in
    let found = c.in_ok-found-in-Some.found in
    let are = c.in_ok-found-in-Some.ensures in
    subst (λ midway. IsFoundIn midway (arc_value pass.topo) pass.present found.rows.items found.lead_ins) (sym c.in-Some.is)
    (subst (λ topo. IsFoundIn (Some c.in-Some.law) topo pass.present found.rows.items found.lead_ins) c.deref-in-Some.ensures (record { members = are.rows; counted = are.lead_ins }))
