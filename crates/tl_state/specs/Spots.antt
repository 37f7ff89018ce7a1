-- The first entry that does not stand before a key.
use Rattle.std.specs.Prelude.{◌≡◌, ◌+◌, ◌<◌, ℕ, false, List, ◌∷◌, length, Vec}
use Rattle.std.specs.Ordering.{is_gt}
use Rattle.std.specs.declared.cmp.Ordering.{Ordering}
use Rattle.std.specs.declared.sync.Arc.{Arc}
use Rattle.tl_state.specs.KeyOrder.{Below}
use Rattle.tl_state.specs.Leaves.{entries_of, entries_ahead, entries_behind}

-- The entry stands at `place` of the leaf `at`, what is ahead of it stands before the key, and it does not.
pub record IsSpot {K V Y Z : Type 0} (cmp : K → K → Ordering) (key : K) (leaves : List (Arc (Vec (K × V) Y) Z)) (at place : ℕ) (entry : K × V) : Type 0 where
  pub in_leaves : at < length leaves
  pub in_leaf : place < length (entries_of leaves at)
  pub here : entries_behind leaves at place ≡ entry ∷ entries_behind leaves at (place + 1)
  pub below : Below cmp key (entries_ahead leaves at place)
  pub stops : is_gt (cmp key entry.0) ≡ false
