use Rattle.std.proofs.Common.{◌≡◌, ◌++◌, drop}
use Rattle.std.specs.Arc.{arc_value}
use Rattle.tl_capture.specs.Parts.{spanned}
use Rattle.tl_capture.proofs.window_beats.copied.Given as goal

-- what is pushed so far and what the fragments that are left have
abbrev pub invariant-loop-link : goal.invariant-loop-link
invariant-loop-link l = l.beats.items ++ spanned arc_value l.from l.to (drop l.link-index l.parts) ≡ spanned arc_value l.from l.to l.parts
