use Rattle.std.proofs.Common.{◌≡◌, ◌++◌, drop}
use Rattle.tl_capture.proofs.LawLemmas.{windows_pushed}
use Rattle.tl_capture.proofs.present.Present.windows.Given as goal

-- what is pushed so far and what the links that are left have
abbrev pub invariant-loop-link : goal.invariant-loop-link
invariant-loop-link l = l.windows.items ++ windows_pushed (drop l.link-index l.links) l.self ≡ windows_pushed l.links l.self
