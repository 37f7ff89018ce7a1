use Rattle.std.proofs.Common.{◌≡◌, ◌++◌}
use Rattle.tl_capture.specs.Present.{of_link}
use Rattle.tl_capture.specs.Shares.{windows_of_all}
use Rattle.tl_capture.specs.Walk.{fragments_left}
use Rattle.tl_capture.proofs.WalkLemmas.{read_all, own_windows}
use Rattle.tl_capture.proofs.ranges.Ranges.push_windows.Given as goal

-- what is pushed so far and what the fragments that are left have
abbrev pub invariant-loop-fragment : goal.invariant-loop-fragment
invariant-loop-fragment l = l.windows.items ++ read_all own_windows (fragments_left l.fragment-iterator) ≡ l.fn.windows.items ++ windows_of_all (of_link l.link l.self)
