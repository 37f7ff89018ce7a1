use Rattle.std.proofs.Common.{◌≡◌, ◌<◌, ◌≤◌, ℕ, length}
use Rattle.tl_pass.specs.Parts.{manager_of}
use Rattle.tl_pass.proofs.part.is_cut.Given as goal

abbrev pub invariant-loop-low : goal.invariant-loop-low
invariant-loop-low l = (low high : ℕ) → low < l.low → l.first ≤ high → high < length l.topo.links → manager_of l.topo low ≡ manager_of l.topo high → ⊥
