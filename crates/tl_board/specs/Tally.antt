-- When two tallies are one.
use Rattle.std.specs.Prelude.{◌≡◌}
use Rattle.tl_board.specs.declared.tally.Tally.{Tally}

abbrev pub SameTally : Tally → Tally → Type 0
SameTally one two = one.count ≡ two.count
