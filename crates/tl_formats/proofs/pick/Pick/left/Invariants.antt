use Rattle.std.proofs.Common.{◌≡◌, take}
use Rattle.std.specs.Prelude.{filter}
use Rattle.tl_formats.specs.Picks.{is_left}
use Rattle.tl_formats.proofs.pick.Pick.left.Given as goal

-- those of the rows so far
abbrev pub invariant-loop-row : goal.invariant-loop-row
invariant-loop-row l = l.left.items ≡ filter (is_left l.self) (take l.row-index l.rows)
