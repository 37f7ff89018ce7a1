use Rattle.std.proofs.Common.{◌≡◌}
use Rattle.tl_monitor.specs.Boxes.{first_out}
use Rattle.tl_monitor.proofs.boxes.first_away.Given as goal

abbrev pub invariant-loop-number : goal.invariant-loop-number
invariant-loop-number g l = first_out l.number-iterator ≡ first_out l.slots.entries
