use Rattle.std.proofs.Common.{sym, subst, arith}
use Rattle.std.proofs.lemmas.Grind.{common_steps}
use Rattle.tl_monitor.specs.Boxes.{AreKept}
use Rattle.tl_monitor.proofs.KeptLemmas.{removed_kept}
use Rattle.tl_monitor.proofs.boxes.Boxes.end_here.Goals as goal

pub invariant_of-self : goal.invariant_of-self
invariant_of-self g c = (grind (arith, common_steps), subst AreKept (sym c.remove.ensures.entries) (removed_kept c.args.number c.self.inside.slots.entries c.self.invariant.1))
