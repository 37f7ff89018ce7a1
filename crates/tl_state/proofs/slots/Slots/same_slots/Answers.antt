use Rattle.std.proofs.Common.{rules}
use Rattle.std.proofs.lemmas.Cmp.{nat_cmp_total}
use Rattle.tl_same.specs.Exact.{nats_exact}
use Rattle.tl_state.specs.Slots.{AgreeOn}
use Rattle.tl_state.proofs.Tables.{tables_decide}
use Rattle.tl_state.proofs.SlotLaws.{same_by_parts}
use Rattle.tl_state.proofs.slots.Slots.same_slots.Goals as goal

pub returns : goal.returns
returns g c =
    let here : AgreeOn c.args.self.now c.args.other.now = search rules in
    let there : AgreeOn c.args.other.now c.args.self.now = search rules in
    same_by_parts c.args.self.now c.args.other.now c.eq.result here there
    (tables_decide nat_cmp_total (λ x y. search rules) nats_exact g.met.V.Exact.exact c.args.self.now.high c.args.other.now.high c.len-here.ensures.ordered c.len-there.ensures.ordered c.eq.result c.eq.ensures)
