-- The rows of a manager's beats, each with what makes it so.
use Rattle.std.specs.Prelude.{◌≡◌, ◌==◌, ◌&&◌, Bool, List, [], ◌∷◌, ◌++◌, filter, map, reverse}
use Rattle.std.specs.List.{Contains}
use Rattle.tl_tables.specs.Messages.{same_chan}
use Rattle.tl_beats.specs.declared.Placed.{Placed}
use Rattle.tl_beats.specs.declared.Row.{Row}
use Rattle.tl_definitions.specs.Rules.{Manager}
use Rattle.tl_definitions.specs.Breaks.{Breaks}
use Rattle.tl_rows.specs.declared.telling.Told.{Told}
use Rattle.tl_rows.specs.Reasons.{reason_at}

-- The row is of this beat: of its link, cycle and channel.
abbrev pub is_of : Placed → Row → Bool
is_of p row = ((row.link == p.link) && (row.cycle == p.beat.cycle)) && same_chan row.chan p.beat.chan

abbrev pub told_of : Manager → List Placed → Placed → Row → Told
told_of m before p row = record { row = row; place = p; reason = reason_at m before p row.rule }

-- Those of the rows that are of the next beat after others, each with what makes it so.
abbrev pub told_at : Manager → List Row → List Placed → Placed → List Told
told_at m rows before p = map (told_of m before p) (filter (is_of p) rows)

-- The rows of beats in their order that come after others: of each beat those among these rows that are of it.
abbrev pub told_after : Manager → List Row → List Placed → List Placed → List Told
told_after m rows before [] = []
told_after m rows before (p ∷ beats) = map (told_of m before p) (filter (is_of p) rows) ++ told_after m rows (p ∷ before) beats

-- Each of the rows whose beat breaks its rule is told, with the reason of that beat after all beats before it.
abbrev pub BrokenRowsAreTold : Type 0
BrokenRowsAreTold = (m : Manager) (beats : List Placed) (rows : List Row) (row : Row) → Contains rows row → Breaks m beats row →
    (earlier later : List Placed) × (p : Placed) × (beats ≡ earlier ++ p ∷ later) × Contains (told_after m rows [] beats) (told_of m (reverse earlier) p row)
