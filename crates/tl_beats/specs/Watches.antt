-- What a watch is on.
use Rattle.std.specs.Prelude.{ℕ, List, Bool, ◌&&◌, ◌==◌}
use Rattle.tl_tables.specs.Messages.{same_chan}
use Rattle.tl_beats.specs.declared.Beat.{Beat}
use Rattle.tl_beats.specs.declared.watch.Class.{Class}
use Rattle.tl_beats.specs.declared.watch.Watch.{Watch}
use Rattle.tl_beats.specs.declared.watch.Watch.TheVariants as watch

-- The beat is of the class.
abbrev pub matches : Class → Beat → Bool
matches class beat = same_chan class.chan beat.chan && (class.opcode == beat.opcode)

-- The text of the link's name.
abbrev pub link_of : Watch → List ℕ
link_of (watch.Budget link class limit) = link
link_of (watch.After link first second) = link
