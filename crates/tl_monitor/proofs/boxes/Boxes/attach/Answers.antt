use Rattle.std.proofs.Common.{◌≡◌, sym, subst, rules, arith}
use Rattle.std.proofs.lemmas.Grind.{common_steps}
use Rattle.std.specs.Ordering.{nat_cmp}
use Rattle.std.specs.BTreeMap.{insert_entry}
use Rattle.tl_monitor.specs.Boxes.{AreKept}
use Rattle.tl_monitor.specs.Places.{Here}
use Rattle.tl_monitor.proofs.KeptLemmas.{attached_kept}
use Rattle.tl_monitor.proofs.boxes.Boxes.attach.Goals as goal

pub invariant_of-self-in-Ok : goal.invariant_of-self-in-Ok
invariant_of-self-in-Ok g c =
    let set : c.insert.new.self.entries ≡ insert_entry nat_cmp c.self.inside.slots.entries c.args.number (Here c.args.monitor) = search rules in
    (grind (arith, common_steps), subst AreKept (sym set) (attached_kept c.args.number c.args.monitor c.self.inside.slots.entries c.self.invariant.1))
