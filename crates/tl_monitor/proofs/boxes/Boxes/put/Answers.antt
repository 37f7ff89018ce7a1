use Rattle.std.proofs.Common.{◌≡◌, sym, subst, rules, arith}
use Rattle.std.proofs.lemmas.Grind.{common_steps}
use Rattle.std.specs.Ordering.{nat_cmp}
use Rattle.std.specs.BTreeMap.{is_at}
use Rattle.std.specs.Map.{set_value}
use Rattle.tl_monitor.specs.Boxes.{AreKept}
use Rattle.tl_monitor.specs.Places.{Here}
use Rattle.tl_monitor.proofs.KeptLemmas.{put_kept}
use Rattle.tl_monitor.proofs.boxes.Boxes.put.Goals as goal

pub invariant_of-self : goal.invariant_of-self
invariant_of-self g c =
    let set : (c.get_mut.follows.lender c.put.new.self).entries ≡ set_value (is_at (nat_cmp c.args.number)) c.self.inside.slots.entries (Here c.args.monitor) = search rules in
    (grind (arith, common_steps), subst AreKept (sym set) (put_kept c.args.number c.args.monitor c.self.inside.slots.entries c.self.invariant.1))
