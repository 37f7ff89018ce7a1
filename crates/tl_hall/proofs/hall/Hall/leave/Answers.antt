use Rattle.std.proofs.Common.{ap, sym, ◌∙◌, arith}
use Rattle.tl_hall.specs.Passes.{HallData}
use Rattle.tl_hall.proofs.Keeping.{stays_as, leaves_as}
use Rattle.tl_hall.proofs.Seating.{loaded}
use Rattle.tl_hall.proofs.hall.Hall.leave.Goals as goal

pub fetch_add-requires : goal.fetch_add-requires
fetch_add-requires g c =
    let x = c.exchange.ensures in
    let inside = c.requires.inside in (
      x.0 ∙ (c.requires.hall ∙ sym (ap (λ (r : HallData). r.hall) c.self.view_is)),
      omega (arith, c.self.invariant.0),
      stays_as _ _ _ _ _ c.args.desk (loaded _ _ _ inside x.3) inside.holds,
    )

pub store-requires : goal.store-requires
store-requires g c =
    let x = c.exchange.ensures in
    let y = c.fetch_add.ensures in
    let inside = c.requires.inside in (
      y.0 ∙ (x.0 ∙ (c.requires.hall ∙ sym (ap (λ (r : HallData). r.hall) c.self.view_is))),
      omega (arith, c.self.invariant.0),
      leaves_as _ _ _ _ _ c.args.desk (y.2 ∙ loaded _ _ _ inside x.3) inside.holds inside.lives (omega (arith, c.self.invariant.1)) c.requires.desk,
    )
