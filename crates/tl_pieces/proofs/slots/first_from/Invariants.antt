use Rattle.std.proofs.Common.{◌≡◌}
use Rattle.tl_pieces.specs.Keys.{from}
use Rattle.tl_pieces.specs.Slots.{first}
use Rattle.tl_pieces.proofs.slots.first_from.Given as goal

abbrev pub invariant-loop-at : goal.invariant-loop-at
invariant-loop-at g l = first l.mark l.at-iterator ≡ first l.mark (from l.fn.key l.map.entries)
