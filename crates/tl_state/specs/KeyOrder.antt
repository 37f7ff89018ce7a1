-- Entries in the order of their keys, and where a key stands among them.
use Rattle.std.specs.Prelude.{◌≡◌, false, List, [], ◌∷◌, ⊤}
use Rattle.std.specs.List.{AllByRecursion}
use Rattle.std.specs.List.Sorted.{IsStrictlySortedBy}
use Rattle.std.specs.Map.{keys_of}
use Rattle.std.specs.Ordering.{is_gt}
use Rattle.std.specs.declared.cmp.Ordering.{Ordering}
use Rattle.std.specs.declared.cmp.Ordering.TheVariants.{Greater}

-- The keys rise, strictly.
abbrev pub Rises : {K V : Type 0} → (K → K → Ordering) → List (K × V) → Type 0
Rises cmp entries = IsStrictlySortedBy cmp (keys_of entries)

module _ {K V : Type 0} (cmp : K → K → Ordering) (key : K) where
  -- Every entry stands before the key.
  abbrev pub Below : List (K × V) → Type 0
  Below entries = AllByRecursion (λ e. cmp key e.0 ≡ Greater) entries

  -- The first entry, if there is one, does not.
  abbrev pub Stops : List (K × V) → Type 0
  Stops [] = ⊤
  Stops (e ∷ es) = is_gt (cmp key e.0) ≡ false

  -- There are entries, and the last does not.
  abbrev pub Reaches : List (K × V) → Type 0
  Reaches [] = ⊥
  Reaches (e ∷ []) = is_gt (cmp key e.0) ≡ false
  Reaches (e ∷ f ∷ es) = Reaches (f ∷ es)

  -- The first leaf, if there is one, reaches the key.
  abbrev pub StopsLeaf : {L : Type 0} → (L → List (K × V)) → List L → Type 0
  StopsLeaf entries_of [] = ⊤
  StopsLeaf entries_of (leaf ∷ leaves) = Reaches (entries_of leaf)
