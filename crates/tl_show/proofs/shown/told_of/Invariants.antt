use Rattle.std.proofs.Common.{◌≡◌, drop}
use Rattle.std.specs.Prelude.{find}
use Rattle.tl_show.specs.Shown.{is_row}
use Rattle.tl_show.proofs.shown.told_of.Given as goal

-- what is left has the first
abbrev pub invariant-loop-each : goal.invariant-loop-each
invariant-loop-each l = find (is_row l.row) (drop l.each-index l.told) ≡ find (is_row l.row) l.told
