use Rattle.std.proofs.Common.{◌≡◌, ◌<◌, ◌≤◌, ℕ}
use Rattle.tl_pass.specs.Parts.{manager_of}
use Rattle.tl_pass.proofs.part.is_alone.Given as goal

abbrev pub invariant-loop-high : goal.invariant-loop-high
invariant-loop-high l = (high : ℕ) → l.fn.first ≤ high → high < l.high → l.own ≡ manager_of l.topo high → ⊥
