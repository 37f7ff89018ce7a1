use Rattle.std.proofs.Common.{ap, sym, ◌∙◌, arith}
use Rattle.tl_hall.specs.Rule.{Sat}
use Rattle.tl_hall.specs.Passes.{HallData, PassData}
use Rattle.tl_hall.proofs.Keeping.{joins, learns}
use Rattle.tl_hall.proofs.hall.Hall.meet.Goals as goal

pub join_seat-requires : goal.join_seat-requires
join_seat-requires g c =
    let here = sym (ap (λ (r : HallData). r.hall) c.self.view_is) in (
      ap (λ (p : PassData). p.hall) c.pass.view_is ∙ (c.requires.pass ∙ here),
      ap (λ (p : PassData). p.hall) c.note.view_is ∙ (c.requires.note ∙ here),
      c.note.invariant.bare,
      omega (arith, c.self.invariant.0),
      joins _ _ _ _ _ c.pass.invariant.0.lives c.note.invariant.lives,
    )

pub load-requires : goal.load-requires
load-requires g c =
    let here = sym (ap (λ (r : HallData). r.hall) c.self.view_is) in
    let j = c.join_seat.ensures in (
      j.0 ∙ (ap (λ (p : PassData). p.hall) c.pass.view_is ∙ (c.requires.pass ∙ here)),
      omega (arith, c.self.invariant.0),
      learns _ _ _ _ (ap (λ (m : Sat). m.0.spent) j.2 ∙ c.pass.invariant.0.lives) (ap (λ (m : Sat). m.0.turn) j.2 ∙ c.pass.invariant.0.waits),
    )
