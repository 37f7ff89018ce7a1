use Rattle.std.proofs.Common.{◌≡◌, sym, subst, rules, arith, Some}
use Rattle.std.proofs.lemmas.Grind.{common_steps}
use Rattle.std.specs.Ordering.{nat_cmp}
use Rattle.std.specs.BTreeMap.{is_at}
use Rattle.std.specs.Map.{set_value}
use Rattle.tl_monitor.specs.Boxes.{AreKept, place_at}
use Rattle.tl_monitor.proofs.KeptLemmas.{closing_kept}
use Rattle.tl_monitor.proofs.boxes.Boxes.set_closing.Goals as goal
use Rattle.tl_monitor.specs.Places.{place_closing}
use Rattle.tl_monitor.proofs.boxes.Boxes.set_closing.Goals.{in-Some, in_default}

pub invariant_of-self : goal.invariant_of-self
invariant_of-self g c =
    elim c.match-get_mut.branch [
      | in-Some w ↦
          let found : place_at c.args.number c.self.inside.slots.entries ≡ Some w.in-Some.slot.now = search rules in
          let set : (c.get_mut.follows.lender w.set_closing.new.self).entries ≡ set_value (is_at (nat_cmp c.args.number)) c.self.inside.slots.entries (place_closing c.args.edit w.in-Some.slot.now) = search rules in
          rw w.self-inside-is (grind (arith, common_steps), subst AreKept (sym set) (closing_kept c.args.number c.args.edit w.in-Some.slot.now c.self.inside.slots.entries c.self.invariant.1 found))
      | in_default w ↦
          let same : c.get_mut.follows.lender-at-none.entries ≡ c.self.inside.slots.entries = search rules in
          rw w.self-inside-is (grind (arith, common_steps), subst AreKept (sym same) c.self.invariant.1)
    ]
