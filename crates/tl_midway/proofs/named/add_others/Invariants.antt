use Rattle.std.proofs.Common.{◌≡◌, ◌++◌, take}
use Rattle.std.specs.Prelude.{not, filter}
use Rattle.tl_beats.specs.declared.Row.{Row}
use Rattle.tl_midway.specs.Named.{is_flow}
use Rattle.tl_midway.proofs.named.add_others.Given as goal

-- those of the first rows are at the end
abbrev pub invariant-loop-row : goal.invariant-loop-row
invariant-loop-row l = l.rows.items ≡ l.initial.rows.items ++ filter (λ (row : Row). not (is_flow row.rule)) (take l.row-index l.found)
