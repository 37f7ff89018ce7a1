-- What a walk over a map has left.
use Rattle.std.specs.Prelude.{List, ◌++◌}
use Rattle.tl_state.specs.Leaves.{all_entries}
use Rattle.tl_state.specs.declared.walk.Entries.{Entries}

-- The entries that it still gives, in their order.
abbrev pub entries_left : {K V : Type 0} → Entries K V → List (K × V)
entries_left walk = walk.entries.now ++ all_entries walk.leaves.now
