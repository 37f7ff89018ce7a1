use Rattle.std.proofs.Common.{drop, ◌⊎◌}
use Rattle.std.specs.Prelude.{◌↔◌}
use Rattle.std.specs.List.{Contains}
use Rattle.tl_beats.specs.declared.Row.{Row}
use Rattle.tl_definitions.specs.Report.{FindsIn}
use Rattle.tl_check.specs.Captured.{watch_captures}
use Rattle.tl_check.proofs.watching.watches_rows.Given as goal

-- what is found so far and what the watches that are left find are all
abbrev pub invariant-loop-named : goal.invariant-loop-named
invariant-loop-named l =
    (row : Row) → (Contains l.rows.items row ⊎ FindsIn (watch_captures l.topo l.present (drop l.named-index l.watches)) row)
    ↔ FindsIn (watch_captures l.topo l.present l.watches) row
