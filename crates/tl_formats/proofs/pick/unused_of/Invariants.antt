use Rattle.std.proofs.Common.{◌≡◌, take}
use Rattle.std.specs.Prelude.{filter}
use Rattle.tl_formats.specs.Picks.{is_unused}
use Rattle.tl_formats.proofs.pick.unused_of.Given as goal

-- those of the waivers so far
abbrev pub invariant-loop-waiver : goal.invariant-loop-waiver
invariant-loop-waiver l = l.unused.items ≡ filter (is_unused l.rows) (take l.waiver-index l.waivers)
