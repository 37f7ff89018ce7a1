-- Cursors in a stack, the one whose next beat is least on top.
use Rattle.std.specs.Prelude.{◌≡◌, ◌-◌, List, length, take}
use Rattle.std.specs.declared.cmp.Ordering.{Ordering}
use Rattle.std.specs.declared.cmp.Ordering.TheVariants.{Equal}
use Rattle.std.specs.List.{Contains}
use Rattle.std.specs.List.Sorted.{IsStrictlySortedBy}
use Rattle.tl_beats.specs.declared.Placed.{Placed}
use Rattle.tl_capture.specs.declared.cursor.Cursor.{Cursor}
use Rattle.tl_definitions.specs.Positions.{position_order, in_order}
use Rattle.tl_capture.specs.Cursors.{here, all_left}

-- what cursors have left, in the order of positions
abbrev pub in_turn : List Cursor → List Placed
in_turn cs = in_order (all_left cs)

-- Its top is last.
abbrev pub under_top : List Cursor → List Cursor
under_top cs = take (length cs - 1) cs

-- A cursor lies under another where its next beat lies after that one's.
abbrev pub stack_order : Cursor → Cursor → Ordering
stack_order c d = position_order (here d) (here c)

abbrev pub AreStacked : List Cursor → Type 0
AreStacked cs = IsStrictlySortedBy stack_order cs

-- No next beat of others stands at its position.
abbrev pub AreUntied : Cursor → List Cursor → Type 0
AreUntied c cs = (d : Cursor) → Contains cs d → position_order (here c) (here d) ≡ Equal → ⊥

-- what a walk keeps; each beat that is left has a position of its own
pub record AreReady (cs : List Cursor) : Type 0 where
  pub stacked : AreStacked cs
  pub apart : IsStrictlySortedBy position_order (in_turn cs)
