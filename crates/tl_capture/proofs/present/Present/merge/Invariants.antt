use Rattle.std.proofs.Common.{◌≡◌, ◌++◌, drop}
use Rattle.tl_capture.specs.Cursors.{all_left}
use Rattle.tl_capture.specs.Windows.{is_within}
use Rattle.tl_capture.proofs.GatherLemmas.{pushed}
use Rattle.tl_capture.proofs.present.Present.merge.Given as goal

-- the beats of what is pushed so far and of the links that are left
abbrev pub invariant-loop-link : goal.invariant-loop-link
invariant-loop-link l = all_left l.cursors.items ++ pushed (is_within l.from l.to) (drop l.link-index l.links) l.self ≡ pushed (is_within l.from l.to) l.links l.self
