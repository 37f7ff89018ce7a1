use Rattle.std.proofs.Common.{◌≡◌, take}
use Rattle.std.specs.Prelude.{filter}
use Rattle.tl_formats.specs.Picks.{is_waived}
use Rattle.tl_formats.proofs.pick.Pick.waived.Given as goal

-- those of the rows so far
abbrev pub invariant-loop-row : goal.invariant-loop-row
invariant-loop-row l = l.waived.items ≡ filter (is_waived l.self) (take l.row-index l.rows)
