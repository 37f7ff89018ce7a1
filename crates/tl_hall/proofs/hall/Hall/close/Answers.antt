use Rattle.std.proofs.Common.{ap, sym, ◌∙◌, subst, arith}
use Rattle.tl_hall.specs.Passes.{HallData, PassData, Closes}
use Rattle.tl_hall.proofs.Keeping.{stays}
use Rattle.tl_hall.proofs.hall.Hall.close.Goals as goal

pub fetch_add-requires : goal.fetch_add-requires
fetch_add-requires g c =
    let e = c.enter-desk.ensures in (
      e.hall ∙ (ap (λ (p : PassData). p.hall) c.pass.view_is ∙ (c.requires ∙ sym (ap (λ (r : HallData). r.hall) c.self.view_is))),
      omega (arith, c.self.invariant.0),
      stays _ _ _ _ e.inside.holds,
    )

pub returns : goal.returns
returns g c =
    let e = c.enter-desk.ensures in
    subst (λ (p : PassData). Closes p c.enter-desk.result) c.pass.view_is record { log = c.enter-desk.new.seat.me.0.seen; saw = e.saw.saw; own_is = e.saw.own_is; others = e.saw.others; leads = e.desk }
