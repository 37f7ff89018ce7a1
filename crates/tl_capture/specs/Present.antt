-- What stands on the links at one moment, as plain data: fragments in the order of their links and ranges.
use Rattle.std.specs.Prelude.{ℕ, ◌≡◌, ◌≤◌, ◌==◌, ◌&&◌, not, nat_le, min, Bool, false, List, [], ◌∷◌, if◌then◌else◌, filter, map, Option, None, Some}
use Rattle.std.specs.Option.{option_map_or}
use Rattle.std.specs.List.{All, AllByRecursion, find}
use Rattle.std.specs.List.Sorted.{IsStrictlySortedBy}
use Rattle.std.specs.declared.cmp.Ordering.{Ordering}
use Rattle.std.specs.Ordering.{nat_cmp, ordering_then, is_lt}
use Rattle.tl_beats.specs.Fragments.{Frag, AreBeats}
use Rattle.tl_definitions.specs.Positions.{Recorded}

-- a fragment on the link with this number
abbrev pub recorded : ℕ → Frag → Recorded
recorded link f = record { link = link; number = f.number; first = f.first; last = f.last; beats = f.beats }

-- A fragment lies before another where its link does, or on one link where its range ends before the other's begins.
abbrev pub range_order : Recorded → Recorded → Ordering
range_order f g = ordering_then (nat_cmp f.link g.link) (nat_cmp f.last g.first)

-- the fragment of a link with this number
abbrev pub is_of : ℕ → ℕ → Recorded → Bool
is_of link number f = f.link == link && f.number == number

abbrev pub AreNumbered : List Recorded → Type 0
AreNumbered [] = Unit {0}
AreNumbered (f ∷ fs) = AllByRecursion (λ g. is_of f.link f.number g ≡ false) fs × AreNumbered fs

-- what each fragment keeps
pub record IsCapture (f : Recorded) : Type 0 where
  pub order : f.first ≤ f.last
  pub beats : AreBeats f.first f.last f.beats

-- Each is a fragment's, and lies before those after it: the ranges of one link are apart. So are its numbers.
pub record IsPresent (fs : List Recorded) : Type 0 where
  pub each : All IsCapture fs
  pub apart : IsStrictlySortedBy range_order fs
  pub numbers : AreNumbered fs

-- the fragment of a link with a number, if one is there
abbrev pub numbered : ℕ → ℕ → List Recorded → Option Recorded
numbered link number fs = find (is_of link number) fs

-- the fragments of a link
abbrev pub of_link : ℕ → List Recorded → List Recorded
of_link link fs = filter (λ f. f.link == link) fs

-- with one fragment more, in front of those that it lies before
abbrev pub put_in : Recorded → List Recorded → List Recorded
put_in f [] = f ∷ []
put_in f (g ∷ gs) = if is_lt (range_order f g) then f ∷ g ∷ gs else g ∷ put_in f gs

-- without the fragment of a link with a number
abbrev pub without : ℕ → ℕ → List Recorded → List Recorded
without link number fs = filter (λ f. not (is_of link number f)) fs

-- without all fragments of a link
abbrev pub cleared : ℕ → List Recorded → List Recorded
cleared link fs = filter (λ f. not (f.link == link)) fs

-- a fragment of the link ends by a cycle
abbrev pub ends_by : ℕ → ℕ → Recorded → Bool
ends_by link cycle f = f.link == link && nat_le f.last cycle

-- without the fragments of a link that end by a cycle
abbrev pub without_ended : ℕ → ℕ → List Recorded → List Recorded
without_ended link cycle fs = filter (λ f. not (ends_by link cycle f)) fs

-- a fragment of the link has a cycle of the range
abbrev pub shares : ℕ → ℕ → ℕ → Recorded → Bool
shares link first last f = f.link == link && nat_le first f.last && nat_le f.first last

abbrev pub least : List ℕ → Option ℕ
least [] = None
least (n ∷ ns) = Some (option_map_or (min n) (least ns) n)

-- The lowest number of another fragment of the link that shares a cycle with this one. One of its own number isn't asked.
abbrev pub overlapped : Recorded → List Recorded → Option ℕ
overlapped f fs = least (map (λ g. g.number) (filter (λ g. not (g.number == f.number) && shares f.link f.first f.last g) fs))
