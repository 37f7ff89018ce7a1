use Rattle.std.proofs.Common.{ap, sym, ◌∙◌, arith}
use Rattle.tl_hall.specs.Passes.{HallData}
use Rattle.tl_hall.proofs.Keeping.{records_as, leaves_as}
use Rattle.tl_hall.proofs.Seating.{loaded, noted}
use Rattle.tl_hall.proofs.hall.Hall.leave_with.Goals as goal

pub fetch_add-requires : goal.fetch_add-requires
fetch_add-requires g c =
    let x = c.exchange.ensures in
    let inside = c.requires.inside in (
      x.0 ∙ (c.requires.hall ∙ sym (ap (λ (r : HallData). r.hall) c.self.view_is)),
      omega (arith, c.self.invariant.0),
      records_as _ _ _ _ _ g.C.Said.call c.args.desk (loaded _ _ _ inside x.3) c.requires.may inside.holds inside.lives (c.requires.desk c.log.ensures.desk),
    )

pub store-requires : goal.store-requires
store-requires g c =
    let x = c.exchange.ensures in
    let y = c.fetch_add.ensures in
    let inside = c.requires.inside in (
      y.0 ∙ (x.0 ∙ (c.requires.hall ∙ sym (ap (λ (r : HallData). r.hall) c.self.view_is))),
      omega (arith, c.self.invariant.0),
      leaves_as _ _ _ _ _ c.args.desk (noted c.args.seat.now.me c.exchange.new.seat.me c.fetch_add.new.seat.me c.args.desk g.C.Said.call (loaded _ _ _ inside x.3) y.2) inside.holds inside.lives (omega (arith, c.self.invariant.1)) (c.requires.desk c.log.ensures.desk),
    )
