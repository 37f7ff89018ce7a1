use Rattle.std.proofs.Common.{◌≡◌, ◌++◌, drop}
use Rattle.std.specs.Arc.{arc_value}
use Rattle.tl_capture.specs.Parts.{spanned}
use Rattle.tl_capture.specs.Windows.{is_within}
use Rattle.tl_capture.proofs.GatherLemmas.{pushed}
use Rattle.tl_capture.proofs.present.Present.share.Given as goal

-- the beats of what is pushed so far and of the links that are left
abbrev pub invariant-loop-link : goal.invariant-loop-link
invariant-loop-link l = spanned arc_value l.from l.to l.parts.items ++ pushed (is_within l.from l.to) (drop l.link-index l.links) l.self ≡ pushed (is_within l.from l.to) l.links l.self
