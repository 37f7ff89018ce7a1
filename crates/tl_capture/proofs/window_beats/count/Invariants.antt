use Rattle.std.proofs.Common.{◌≡◌, ◌≤◌, ◌+◌, ◌*◌, drop, length}
use Rattle.std.specs.Arc.{arc_value}
use Rattle.tl_capture.specs.Parts.{spanned}
use Rattle.tl_capture.proofs.window_beats.count.Given as goal

-- what is counted so far, with the beats of the fragments that are left; each of the first has fewer than 2 ^ 64
abbrev pub invariant-loop-fragment : goal.invariant-loop-fragment
invariant-loop-fragment l =
    (l.count + length (spanned arc_value l.from l.to (drop l.fragment-index l.parts)) ≡ length (spanned arc_value l.from l.to l.parts))
    × (l.count ≤ l.fragment-index * 18446744073709551616)
