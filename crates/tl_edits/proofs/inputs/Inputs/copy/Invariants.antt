use Rattle.std.proofs.Common.{◌≡◌, take}
use Rattle.tl_edits.proofs.inputs.Inputs.copy.Given as goal

-- the maps so far
abbrev pub invariant-loop-map : goal.invariant-loop-map
invariant-loop-map l = l.regions.items ≡ take l.map-index l.map-items
