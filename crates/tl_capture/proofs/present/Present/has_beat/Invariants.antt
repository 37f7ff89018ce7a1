use Rattle.std.proofs.Common.{◌≡◌, drop}
use Rattle.tl_capture.specs.Windows.{is_within}
use Rattle.tl_capture.proofs.GatherLemmas.{pushed}
use Rattle.tl_capture.proofs.present.Present.has_beat.Given as goal

-- The links that are left have all that there is.
abbrev pub invariant-loop-link : goal.invariant-loop-link
invariant-loop-link l = pushed (is_within l.from l.to) (drop l.link-index l.links) l.self ≡ pushed (is_within l.from l.to) l.links l.self
