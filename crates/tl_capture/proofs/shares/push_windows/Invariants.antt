use Rattle.std.proofs.Common.{◌≡◌, ◌++◌, drop}
use Rattle.tl_capture.specs.Shares.{windows_from}
use Rattle.tl_capture.proofs.shares.push_windows.Given as goal

-- what is found so far and the windows of the beats that are left
abbrev pub invariant-loop-beat : goal.invariant-loop-beat
invariant-loop-beat l = l.windows.items ++ windows_from l.next (drop l.beat-index l.beats) ≡ l.fn.windows.items ++ windows_from 0 l.beats
