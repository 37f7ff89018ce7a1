-- The leaves of a map, and its entries.
use Rattle.std.specs.Prelude.{ℕ, ◌+◌, ◌<◌, ◌++◌, List, length, take, drop, Vec}
use Rattle.std.specs.List.{All, flat_map}
use Rattle.std.specs.Arc.{arc_value}
use Rattle.std.specs.declared.sync.Arc.{Arc}

module _ {K V Y Z : Type 0} where
  -- The entries of a leaf.
  abbrev pub leaf_entries : Arc (Vec (K × V) Y) Z → List (K × V)
  leaf_entries leaf = (arc_value leaf).items

  -- The entries of all leaves.
  abbrev pub all_entries : List (Arc (Vec (K × V) Y) Z) → List (K × V)
  all_entries leaves = flat_map leaf_entries leaves

  -- The entries of the leaf with this number, counted from 0; none past the last.
  abbrev pub entries_of : List (Arc (Vec (K × V) Y) Z) → ℕ → List (K × V)
  entries_of leaves at = all_entries (take 1 (drop at leaves))

  -- The entries ahead of a place in a leaf, and those from it on.
  abbrev pub entries_ahead : List (Arc (Vec (K × V) Y) Z) → ℕ → ℕ → List (K × V)
  entries_ahead leaves at place = all_entries (take at leaves) ++ take place (entries_of leaves at)

  abbrev pub entries_behind : List (Arc (Vec (K × V) Y) Z) → ℕ → ℕ → List (K × V)
  entries_behind leaves at place = drop place (entries_of leaves at) ++ all_entries (drop (at + 1) leaves)

  -- No leaf is empty.
  abbrev pub EachHasEntries : List (Arc (Vec (K × V) Y) Z) → Type 0
  EachHasEntries leaves = All (λ leaf. 0 < length (leaf_entries leaf)) leaves
