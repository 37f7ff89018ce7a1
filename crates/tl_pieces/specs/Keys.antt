-- Keys of pieces, and lists of entries in the order of their keys.
use Rattle.std.specs.Prelude.{◌≡◌, ℕ, true, ◌==◌, cond, List, [], ◌∷◌, ◌++◌, Option, Some, None}
use Rattle.std.specs.Ordering.{nat_cmp, ordering_then, is_le}
use Rattle.std.specs.declared.cmp.Ordering.{Ordering}
use Rattle.std.specs.BTreeMap.{is_at}
use Rattle.std.specs.Map.{keys_of, lookup}
use Rattle.std.specs.List.Sorted.{IsStrictlySortedBy}
use Rattle.std.specs.BTreeMap.Range.{entries_between}
use Rattle.std.specs.declared.ops.Bound.TheVariants.{Included, Excluded, Unbounded}
use Rattle.tl_pieces.specs.declared.key.PieceKey.{PieceKey}

-- by owner, and then by window
abbrev pub key_cmp : PieceKey → PieceKey → Ordering
key_cmp x y = ordering_then (nat_cmp x.owner y.owner) (nat_cmp x.window y.window)

-- the second key is the first one, or stands after it
abbrev pub IsNotBefore : PieceKey → PieceKey → Type 0
IsNotBefore from k = is_le (key_cmp from k) ≡ true

module _ {V : Type 0} where
  -- the value of the key, if there is one
  abbrev pub value_at : PieceKey → List (PieceKey × V) → Option V
  value_at k es = lookup (is_at (key_cmp k)) es

  -- the value of the key is changed by f, and all else stays
  abbrev pub change : PieceKey → (V → V) → List (PieceKey × V) → List (PieceKey × V)
  change k f [] = []
  change k f (e ∷ es) = cond (is_at (key_cmp k) e.0) ((e.0, f e.1) ∷ es) (e ∷ change k f es)

  -- the entries before the key, those after it, and those from it on
  abbrev pub before : PieceKey → List (PieceKey × V) → List (PieceKey × V)
  before k es = entries_between key_cmp Unbounded (Excluded k) es

  abbrev pub after : PieceKey → List (PieceKey × V) → List (PieceKey × V)
  after k es = entries_between key_cmp (Excluded k) Unbounded es

  abbrev pub from : PieceKey → List (PieceKey × V) → List (PieceKey × V)
  from k es = entries_between key_cmp (Included k) Unbounded es

  abbrev pub first_key : List (PieceKey × V) → Option PieceKey
  first_key [] = None
  first_key (e ∷ es) = Some e.0

  -- the entries of an owner, and those of all others
  abbrev pub owned_by : ℕ → List (PieceKey × V) → List (PieceKey × V)
  owned_by o [] = []
  owned_by o (e ∷ es) = cond (e.0.owner == o) (e ∷ owned_by o es) (owned_by o es)

  abbrev pub without : ℕ → List (PieceKey × V) → List (PieceKey × V)
  without o [] = []
  without o (e ∷ es) = cond (e.0.owner == o) (without o es) (e ∷ without o es)

  -- the last entry of a list; None: there is none
  abbrev pub EndsWith : List (PieceKey × V) → Option (PieceKey × V) → Type 0
  EndsWith es None = es ≡ []
  EndsWith es (Some e) = (t : List (PieceKey × V)) × (es ≡ t ++ e ∷ [])

  -- the keys rise
  abbrev pub Rises : List (PieceKey × V) → Type 0
  Rises es = IsStrictlySortedBy key_cmp (keys_of es)

-- a key, if it is of the owner
abbrev pub if_owned : ℕ → Option PieceKey → Option PieceKey
if_owned o None = None
if_owned o (Some k) = cond (k.owner == o) (Some k) None

-- the first key that an owner may have
abbrev pub start_of : ℕ → PieceKey
start_of o = record { owner = o; window = 0 }
