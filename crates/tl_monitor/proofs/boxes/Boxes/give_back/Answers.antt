use Rattle.std.proofs.Common.{sym, subst, arith}
use Rattle.std.proofs.lemmas.Grind.{common_steps}
use Rattle.tl_monitor.specs.Boxes.{AreKept}
use Rattle.tl_monitor.proofs.KeptLemmas.{removed_kept}
use Rattle.tl_monitor.proofs.boxes.Boxes.give_back.Goals as goal

pub invariant_of-self-2 : goal.invariant_of-self-2
invariant_of-self-2 g c = (grind (arith, common_steps), subst AreKept (sym c.remove.ensures.entries) (removed_kept c.args.number c.self.inside.slots.entries c.self.invariant.1))
