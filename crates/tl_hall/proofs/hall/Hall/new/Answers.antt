use Rattle.std.proofs.Common.{◌≡◌, sym, subst, arith, List, [], ◌∷◌, Some, Option}
use Rattle.std.proofs.lemmas.Grind.{common_steps}
use Rattle.atomic_table.specs.Table.{opening}
use Rattle.tl_topology.specs.Topology.{Topology}
use Rattle.tl_desk.specs.Core.{Core, IsNew}
use Rattle.tl_hall.specs.Rule.{Kept, newcomer}
use Rattle.tl_hall.proofs.Keeping.{begins}
use Rattle.tl_hall.proofs.hall.Hall.new.Goals as goal

pub new-requires-2 : goal.new-requires-2
new-requires-2 g c =
    let key = c.in_ok-key.key in
    let fresh : IsNew key c.in_ok-desk.desk = subst (λ (t : Topology). IsNew t c.in_ok-desk.desk) (sym c.in_ok-key.ensures) c.in_ok-desk.ensures in
    let one : c.push.new.self.items ≡ Some c.in_ok-desk.desk ∷ [] = grind (arith, common_steps) in
    subst (λ (xs : List (Option Core)). Kept key (opening (0 ∷ 0 ∷ []) xs (newcomer key))) (sym one) (begins key c.in_ok-desk.desk fresh c.log.ensures.desk)
