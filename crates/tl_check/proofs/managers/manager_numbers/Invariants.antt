use Rattle.std.proofs.Common.{◌≡◌, ◌<◌, ℕ, length, take}
use Rattle.std.specs.List.{All}
use Rattle.tl_check.specs.Managers.{numbered}
use Rattle.tl_check.proofs.managers.manager_numbers.Given as goal

abbrev pub invariant-loop-manager : goal.invariant-loop-manager
invariant-loop-manager l = (l.managers.items ≡ numbered 0 (take l.manager l.topo.managers)) × All (λ (n : ℕ). n < length l.topo.managers) l.managers.items
