-- Beats of a link that rise.
use Rattle.std.specs.Prelude.{◌≡◌, true, List, length}
use Rattle.std.specs.List.{AllAdjacentBelow}
use Rattle.tl_beats.specs.declared.Beat.{Beat}
use Rattle.tl_beats.specs.Beats.{rises}

-- Each stands strictly before the next.
abbrev pub AreRising : List Beat → Type 0
AreRising beats = AllAdjacentBelow (λ a b. rises a b ≡ true) beats (length beats)
