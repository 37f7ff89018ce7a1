-- An open table as a map.
use Rattle.std.specs.Prelude.{Option, ◌≡◌}
use Rattle.std.specs.declared.cmp.Ordering.{Ordering}
use Rattle.std.specs.BTreeMap.{get}
use Rattle.tl_link_rules.specs.declared.open_table.OpenTable.{OpenTable}

-- The entry of a key.
abbrev pub entry_of : {K V : Type 0} → (K → K → Ordering) → OpenTable K V → K → Option V
entry_of cmp table key = get cmp table.entries key

-- Both tables have the same entry on each key.
abbrev pub SameEntries : {K V : Type 0} → (K → K → Ordering) → OpenTable K V → OpenTable K V → Type 0
SameEntries {K} cmp one two = (key : K) → entry_of cmp one key ≡ entry_of cmp two key
