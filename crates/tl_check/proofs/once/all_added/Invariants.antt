use Rattle.std.proofs.Common.{◌≡◌, None, map, take}
use Rattle.std.specs.Arc.{arc_value}
use Rattle.tl_check.specs.Once.{adds, first_refusal}
use Rattle.tl_check.proofs.once.all_added.Given as goal

-- the fragments so far are added, and none of them was refused
abbrev pub invariant-loop-fragment : goal.invariant-loop-fragment
invariant-loop-fragment l =
    (l.log ≡ record { topo = l.topo; edits = adds (map arc_value (take l.fragment-index l.fragments)) })
    × (first_refusal l.topo (map arc_value (take l.fragment-index l.fragments)) ≡ None)
