use Rattle.std.proofs.Common.{◌≡◌, [], map, take}
use Rattle.std.specs.Arc.{arc_value}
use Rattle.tl_edits.proofs.inputs.Inputs.new.Given as goal

-- one map for each manager so far
abbrev pub invariant-loop : goal.invariant-loop
invariant-loop l = l.regions.items ≡ map (λ manager. []) (take l.counter (arc_value l.topo).managers)
