use Rattle.std.proofs.Common.{◌≡◌, ◌++◌, drop}
use Rattle.tl_capture.specs.Windows.{is_within}
use Rattle.tl_capture.proofs.GatherLemmas.{pushed}
use Rattle.tl_capture.proofs.present.Present.gather.Given as goal

-- what is pushed so far and what the links that are left have
abbrev pub invariant-loop-link : goal.invariant-loop-link
invariant-loop-link l = l.beats.items ++ pushed (is_within l.from l.to) (drop l.link-index l.links) l.self ≡ pushed (is_within l.from l.to) l.links l.self
