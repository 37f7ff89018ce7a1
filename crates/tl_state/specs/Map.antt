-- A map as the list of its entries, in the order of their keys.
use Rattle.std.specs.Prelude.{◌≡◌, ℕ, List, length, Option, Vec, if◌then◌else◌}
use Rattle.std.specs.BTreeMap.{is_at}
use Rattle.std.specs.Map.{lookup}
use Rattle.std.specs.declared.cmp.Ordering.{Ordering}
use Rattle.std.specs.declared.sync.Arc.{Arc}
use Rattle.tl_state.specs.Leaves.{all_entries, EachHasEntries}
use Rattle.tl_state.specs.KeyOrder.{Rises}

module _ {K V : Type 0} (cmp : K → K → Ordering) where
  -- The value of a key.
  abbrev pub value_at : List (K × V) → K → Option V
  value_at entries key = lookup (is_at (cmp key)) entries

  -- Both have the same value of each key.
  abbrev pub SameValues : List (K × V) → List (K × V) → Type 0
  SameValues one two = (key : K) → value_at one key ≡ value_at two key

  -- The new entries have `value` at the key (None: no value), and at each other key what the old ones have.
  abbrev pub Sets : List (K × V) → List (K × V) → K → Option V → Type 0
  Sets old new key value = (other : K) → value_at new other ≡ (if is_at (cmp key) other then value else value_at old other)

-- What is true of the fields of a map.
pub record IsMap {K V Y Z : Type 0} (cmp : K → K → Ordering) (leaves : List (Arc (Vec (K × V) Y) Z)) (len : ℕ) : Type 0 where
  pub rises : Rises cmp (all_entries leaves)
  pub full : EachHasEntries leaves
  pub counted : len ≡ length (all_entries leaves)
