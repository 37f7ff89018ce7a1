use Rattle.std.proofs.Common.{◌≡◌, ◌++◌}
use Rattle.tl_edits.specs.Inputs.{attached}
use Rattle.tl_edits.proofs.inputs.Inputs.watches.Given as goal

-- those found so far, and those left
abbrev pub invariant-loop-monitor : goal.invariant-loop-monitor
invariant-loop-monitor l =
    (goal.iterator-loop-monitor).can_next l.monitor-iterator ×
    (goal.iterator-loop-monitor).is_finite l.monitor-iterator ×
    (l.watches.items ++ attached l.monitor-iterator ≡ attached l.self.monitors)
