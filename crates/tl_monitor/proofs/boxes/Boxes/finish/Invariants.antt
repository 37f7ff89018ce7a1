use Rattle.std.proofs.Common.{◌≡◌, ◌++◌, ◌+◌, ◌≤◌, map, length, None}
use Rattle.std.specs.Prelude.{vec_capacity}
use Rattle.tl_monitor.specs.Boxes.{told, here_in, first_out}
use Rattle.tl_monitor.proofs.boxes.Boxes.finish.Given as goal

-- What was told, and what is still to be told, is all; there is room for it, and none is out.
abbrev pub invariant-loop-number : goal.invariant-loop-number
invariant-loop-number g l =
    (l.ended.items ++ map (λ e. (e.0, told e.1 l.edit)) (here_in l.slots.entries) ≡ l.initial.ended.items ++ map (λ e. (e.0, told e.1 l.edit)) (here_in l.initial.slots.entries))
    × (length l.slots.entries + length l.ended.items ≤ vec_capacity l.ended)
    × (first_out l.slots.entries ≡ None)

abbrev pub decreases-loop-number : goal.decreases-loop-number
decreases-loop-number g l = length l.slots.entries
