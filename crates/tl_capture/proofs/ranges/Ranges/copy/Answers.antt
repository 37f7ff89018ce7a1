use Rattle.std.proofs.Common.{◌∙◌}
use Rattle.std.specs.Arc.{arc_value}
use Rattle.tl_capture.proofs.PutLemmas.{copied_shown, copied_entries}
use Rattle.tl_capture.proofs.ranges.Ranges.copy.Goals as goal

pub invariant_of-result : goal.invariant_of-result
invariant_of-result c = copied_entries arc_value c.self.inside.ends.entries c.in_ok-clone.field-0.entries c.in_ok-clone.ensures.cases c.self.invariant

pub returns : goal.returns
returns c = copied_shown arc_value c.self.inside.ends.entries c.in_ok-clone.field-0.entries c.in_ok-clone.ensures.cases ∙ c.self.view_is
