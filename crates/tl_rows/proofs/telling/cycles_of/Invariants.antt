use Rattle.std.proofs.Common.{◌≡◌, ◌==◌, ℕ, take}
use Rattle.std.specs.BTreeSet.{contains}
use Rattle.std.specs.List.{list_any}
use Rattle.std.specs.Ordering.{nat_cmp}
use Rattle.tl_rows.proofs.telling.cycles_of.Given as goal

-- the cycles of the rows so far
abbrev pub invariant-loop-row : goal.invariant-loop-row
invariant-loop-row l = (cycle : ℕ) → contains nat_cmp l.cycles cycle ≡ list_any (λ row. row.cycle == cycle) (take l.row-index l.rows)
