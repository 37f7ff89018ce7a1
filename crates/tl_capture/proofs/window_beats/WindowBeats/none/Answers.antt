use Rattle.std.proofs.Common.{sym, ap, subst}
use Rattle.std.specs.Arc.{arc_value}
use Rattle.tl_capture.specs.Parts.{spanned, AreOfWindow}
use Rattle.tl_capture.proofs.MatchLemmas.{no_beats}
use Rattle.tl_capture.proofs.window_beats.WindowBeats.none.Goals as goal

pub invariant_of-result : goal.invariant_of-result
invariant_of-result c = subst (AreOfWindow 0 4095) (sym (ap (spanned arc_value 0 4095) c.new.ensures.items)) no_beats
