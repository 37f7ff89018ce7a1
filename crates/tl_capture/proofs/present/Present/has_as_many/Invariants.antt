use Rattle.std.proofs.Common.{◌≡◌, ◌+◌, length, drop}
use Rattle.tl_capture.specs.Windows.{is_within}
use Rattle.tl_capture.proofs.GatherLemmas.{pushed}
use Rattle.tl_capture.proofs.present.Present.has_as_many.Given as goal

-- the count exceeds what is left by the beats of the first links
abbrev pub invariant-loop-link : goal.invariant-loop-link
invariant-loop-link l = l.left + length (pushed (is_within l.from l.to) l.links l.self) ≡ l.count + length (pushed (is_within l.from l.to) (drop l.link-index l.links) l.self)
