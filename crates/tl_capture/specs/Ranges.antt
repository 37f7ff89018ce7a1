-- The fragments as a map by link and end of range.
use Rattle.std.specs.Prelude.{ℕ, ◌≡◌, ◌==◌, ◌&&◌, not, nat_le, Bool, List, [], ◌∷◌, Option, None, Some, if◌then◌else◌, map, filter, true, false}
use Rattle.std.specs.Option.{option_map}
use Rattle.std.specs.List.{All, AllByRecursion}
use Rattle.std.specs.List.Sorted.{IsStrictlySortedBy}
use Rattle.std.specs.declared.cmp.Ordering.{Ordering}
use Rattle.std.specs.Ordering.{nat_cmp, ordering_then}
use Rattle.std.specs.BTreeMap.{is_at}
use Rattle.std.specs.BTreeMap.Range.{entries_between}
use Rattle.std.specs.declared.ops.Bound.TheVariants.{Included, Unbounded}
use Rattle.std.specs.Map.{lookup}
use Rattle.tl_beats.specs.Fragments.{Frag}
use Rattle.tl_beats.specs.declared.Placed.{Placed}
use Rattle.tl_definitions.specs.Positions.{Recorded, placed_beats}
use Rattle.tl_capture.specs.Present.{recorded, range_order, numbered, IsCapture}
use Rattle.tl_capture.specs.Windows.{beats_within}

-- a link, and a number or the last cycle of a range there
abbrev pub Key : Type 0
Key = ℕ × ℕ

abbrev pub key_cmp : Key → Key → Ordering
key_cmp x y = ordering_then (nat_cmp x.0 y.0) (nat_cmp x.1 y.1)

-- Each is a fragment's, and lies before those after it.
pub record AreRanges (fs : List Recorded) : Type 0 where
  pub each : All IsCapture fs
  pub apart : IsStrictlySortedBy range_order fs

-- A list has any at all.
abbrev pub has_some : {X : Type 0} → List X → Bool
has_some [] = false
has_some (x ∷ xs) = true

-- the fragment of a link whose range ends with this cycle
abbrev pub ends_at : ℕ → ℕ → Recorded → Bool
ends_at link last f = f.link == link && f.last == last

abbrev pub without_end : ℕ → ℕ → List Recorded → List Recorded
without_end link last fs = filter (λ f. not (ends_at link last f)) fs

-- A cycle isn't after an end, if there is one.
abbrev pub is_by : Option ℕ → ℕ → Bool
is_by None cycle = true
is_by (Some last) cycle = nat_le cycle last

-- A fragment of the link ends with this cycle or after it, and doesn't begin after an end.
abbrev pub meets : ℕ → ℕ → Option ℕ → Recorded → Bool
meets link first last f = f.link == link && nat_le first f.last && is_by last f.first

-- the beats of a fragment in a span
abbrev pub span_beats : ℕ → ℕ → Recorded → List Placed
span_beats from to f = beats_within from to (placed_beats f)

module _ {V : Type 0} (value : V → Frag) where
  abbrev pub shown : Key × V → Recorded
  shown e = recorded e.0.0 (value e.1)

  -- Each entry has the end of its fragment's range as its key.
  abbrev pub AreKeyed : List (Key × V) → Type 0
  AreKeyed es = AllByRecursion (λ e. e.0.1 ≡ (value e.1).last) es

  pub record AreEntries (es : List (Key × V)) : Type 0 where
    pub keyed : AreKeyed es
    pub ranges : AreRanges (map shown es)

  -- the entries of a link whose ranges end with this cycle or after it, and those of later links
  abbrev pub from_key : ℕ → ℕ → List (Key × V) → List (Key × V)
  from_key link cycle es = entries_between key_cmp (Included (link, cycle)) Unbounded es

  -- The fragments of a link that a walk over entries gives, up to the first that begins after an end, if there is one.
  abbrev pub met : Option ℕ → ℕ → List (Key × V) → List Recorded
  met last link [] = []
  met last link (e ∷ es) = if e.0.0 == link && is_by last (value e.1).first then shown e ∷ met last link es else []

-- Each number leads to the end of its fragment's range.
abbrev pub AreEnds : List (Key × ℕ) → List Recorded → Type 0
AreEnds es fs = (link number : ℕ) → lookup (is_at (key_cmp (link, number))) es ≡ option_map (λ f. f.last) (numbered link number fs)
