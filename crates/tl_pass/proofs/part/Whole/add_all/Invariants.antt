use Rattle.std.proofs.Common.{◌++◌, List, Option, take}
use Rattle.std.specs.List.{flat_map}
use Rattle.tl_beats.specs.Fragments.{Frag}
use Rattle.tl_midway.specs.declared.midway.Midway.{Midway}
use Rattle.tl_pass.specs.Parts.{AreParts, IsWhole}
use Rattle.tl_pass.proofs.part.Whole.add_all.Given as goal

abbrev pub invariant-loop-part : goal.invariant-loop-part
invariant-loop-part l = (midway : Option Midway) (fs : List Frag) (each : List (List Frag)) → IsWhole midway l.topo fs l.fn.self → AreParts midway l.topo each l.parts
    → IsWhole midway l.topo (fs ++ flat_map (λ gs. gs) (take l.part-index each)) l.self
