use Rattle.std.proofs.Common.{sym, subst}
use Rattle.std.specs.Arc.{arc_value}
use Rattle.tl_capture.specs.Ranges.{AreEntries}
use Rattle.tl_capture.proofs.PresentLemmas.{no_ranges}
use Rattle.tl_capture.proofs.ranges.Ranges.new.Goals as goal

pub invariant_of-result : goal.invariant_of-result
invariant_of-result c = subst (AreEntries arc_value) (sym c.new.ensures.empty) (record { keyed = tt; ranges = no_ranges })
