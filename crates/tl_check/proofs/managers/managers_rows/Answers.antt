use Rattle.std.proofs.Common.{sym, ap, subst, ◌∙◌}
use Rattle.tl_check.specs.Captured.{areas_at}
use Rattle.tl_check.specs.Found.{AreFound}
use Rattle.tl_check.specs.Managers.{captures_at}
use Rattle.tl_check.proofs.Chunks.{by_numbers}
use Rattle.tl_check.proofs.managers.managers_rows.Goals as goal

pub returns : goal.returns
returns c =
    let topo = c.args.topo.now in
    let regions = areas_at c.args.regions.now in
    let fs = c.args.present.now in
    subst (λ cs. AreFound cs c.in_ok-rows.rows.items)
    (ap (captures_at topo regions fs) (c.deref.ensures.value ∙ c.in_ok-managers.ensures.exact) ∙ sym (by_numbers topo regions fs 0 topo.managers)) c.in_ok-rows.ensures.found
