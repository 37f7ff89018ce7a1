-- The regions of a manager: which kinds of access they permit to which bytes.
use Rattle.std.specs.Prelude.{◌≡◌, ℕ, ◌==◌, ◌&&◌, not, Bool, true, false, List, [], ◌∷◌, Option, Some, map, option_map, nat_le, find}
use Rattle.std.specs.List.{list_any}
use Rattle.std.specs.List.Sorted.{IsStrictlySortedBy}
use Rattle.std.specs.Ordering.{nat_cmp}
use Rattle.std.specs.BTreeMap.{insert_entry, is_at}
use Rattle.std.specs.Map.{lookup, remove_entry}
use Rattle.tl_tables.specs.declared.Op.{Op}
use Rattle.tl_tables.specs.declared.Op.TheVariants as op
use Rattle.tl_topology.specs.declared.region.Permits.{Permits}

-- A region as plain data: its first and its last address, and the kinds of access that it permits.
pub record Area : Type 0 where
  pub first : ℕ
  pub last : ℕ
  pub permits : Permits

-- The kind of access of a request on A is among those permitted. [own profile]
abbrev pub permits_kind : Permits → Op → Bool
permits_kind permits op.Get = permits.get
permits_kind permits op.PutFullData = permits.put
permits_kind permits op.PutPartialData = permits.put
permits_kind permits op.ArithmeticData = permits.atomic
permits_kind permits op.LogicalData = permits.atomic
permits_kind permits op.Intent = permits.hint
permits_kind permits op.AcquireBlock = permits.cache
permits_kind permits op.AcquirePerm = permits.cache
permits_kind permits _ = false

-- The region permits the kind of access to all bytes from the low address to the high one.
abbrev pub permits_in : Op → ℕ → ℕ → Area → Bool
permits_in o low high area = nat_le area.first low && nat_le high area.last && permits_kind area.permits o

-- Without regions all is permitted; else one region permits the kind of access to all these bytes. [own profile]
abbrev pub is_permitted : List Area → Op → ℕ → ℕ → Bool
is_permitted [] o low high = true
is_permitted (area ∷ areas) o low high = list_any (permits_in o low high) (area ∷ areas)

-- The regions share an address.
abbrev pub overlaps : Area → Area → Bool
overlaps a b = nat_le a.first b.last && nat_le b.first a.last

-- The regions without their numbers.
abbrev pub areas_of : List (ℕ × Area) → List Area
areas_of entries = map (λ e. e.1) entries

-- The lowest number of another region that shares an address with the one of this number.
abbrev pub overlapping : ℕ → Area → List (ℕ × Area) → Option ℕ
overlapping number area entries = option_map (λ e. e.0) (find (λ e. not (e.0 == number) && overlaps e.1 area) entries)

-- The region of a number.
abbrev pub area_at : ℕ → List (ℕ × Area) → Option Area
area_at number entries = lookup (is_at (nat_cmp number)) entries

-- With a region under a number, in place of the one that was there; and without the region of a number.
abbrev pub put_area : ℕ → Area → List (ℕ × Area) → List (ℕ × Area)
put_area number area entries = insert_entry nat_cmp entries number area

abbrev pub without_area : ℕ → List (ℕ × Area) → List (ℕ × Area)
without_area number entries = remove_entry (is_at (nat_cmp number)) entries

-- Regions of different numbers share no address.
abbrev pub AreApart : List (ℕ × Area) → Type 0
AreApart entries = (j k : ℕ) (a b : Area) → (j == k) ≡ false → area_at j entries ≡ Some a → area_at k entries ≡ Some b → overlaps a b ≡ false

-- What the regions of a manager keep: they stand in the order of their numbers, and no two share an address.
pub record AreRegions (entries : List (ℕ × Area)) : Type 0 where
  pub rising : IsStrictlySortedBy nat_cmp (map (λ e. e.0) entries)
  pub apart : AreApart entries
