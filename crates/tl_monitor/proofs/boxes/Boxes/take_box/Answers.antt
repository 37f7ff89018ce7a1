use Rattle.std.proofs.Common.{◌≡◌, sym, subst, rules, arith, Some}
use Rattle.std.proofs.lemmas.Grind.{common_steps}
use Rattle.std.specs.Ordering.{nat_cmp}
use Rattle.std.specs.BTreeMap.{is_at}
use Rattle.std.specs.Map.{set_value}
use Rattle.tl_monitor.specs.Boxes.{AreKept, place_at}
use Rattle.tl_monitor.proofs.KeptLemmas.{left_kept, left_is}
use Rattle.tl_monitor.proofs.boxes.Boxes.take_box.Goals as goal
use Rattle.tl_monitor.specs.Places.{place_left}

pub invariant_of-self-2 : goal.invariant_of-self-2
invariant_of-self-2 g c =
    let found : place_at c.args.number c.self.inside.slots.entries ≡ Some c.in_ok-get_mut.field-0.now = search rules in
    let set : (c.get_mut.follows.lender c.take.new.self).entries ≡ set_value (is_at (nat_cmp c.args.number)) c.self.inside.slots.entries (place_left c.args.ticket c.in_ok-get_mut.field-0.now) = search rules in
    (grind (arith, common_steps), subst AreKept (sym set) (left_kept c.args.number c.args.ticket c.in_ok-get_mut.field-0.now c.self.inside.slots.entries c.self.invariant.1 found))

pub returns-clause-rest : goal.returns-clause-rest
returns-clause-rest g c =
    let found : place_at c.args.number c.self.inside.slots.entries ≡ Some c.in_ok-get_mut.field-0.now = search rules in
    let set : (c.get_mut.follows.lender c.take.new.self).entries ≡ set_value (is_at (nat_cmp c.args.number)) c.self.inside.slots.entries (place_left c.args.ticket c.in_ok-get_mut.field-0.now) = search rules in
    left_is c.args.number c.args.ticket c.in_ok-get_mut.field-0.now c.self.inside.slots.entries c.self.inside.ended.items _ c.args.self.now found set c.self.view_is
