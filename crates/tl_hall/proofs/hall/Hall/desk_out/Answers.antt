use Rattle.std.proofs.Common.{ℕ, List, ◌∷◌, Some, Option, ap, sym, ◌∙◌}
use Rattle.atomic_table.specs.Table.{rest}
use Rattle.tl_desk.specs.Core.{Core}
use Rattle.tl_hall.specs.Passes.{HallData}
use Rattle.tl_hall.proofs.hall.Hall.desk_out.Goals as goal

pub exchange-requires : goal.exchange-requires
exchange-requires g c =
    let some = c.requires.some in
    (c.requires.hall ∙ sym (ap (λ (r : HallData). r.hall) c.self.view_is), (Some some.0, some.1 ∙ ap (λ (cs : List (ℕ × Option Core)). (0, Some some.0) ∷ rest cs) (sym some.1)))
