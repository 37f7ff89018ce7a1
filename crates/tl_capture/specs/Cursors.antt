-- What cursors have left.
use Rattle.std.specs.Prelude.{◌+◌, List, [], ◌∷◌, ◌++◌}
use Rattle.tl_beats.specs.declared.Placed.{Placed}
use Rattle.tl_capture.specs.declared.cursor.Cursor.{Cursor}
use Rattle.tl_definitions.specs.Positions.{placed_from}

-- the next beat, those after it, and all
abbrev pub here : Cursor → Placed
here c = record { link = c.link; fragment = c.fragment; line = c.line; beat = c.next.now }

abbrev pub after : Cursor → List Placed
after c = placed_from c.link c.fragment (c.line + 1) c.rest.now

abbrev pub beats_left : Cursor → List Placed
beats_left c = here c ∷ after c

abbrev pub all_left : List Cursor → List Placed
all_left [] = []
all_left (c ∷ cs) = beats_left c ++ all_left cs
