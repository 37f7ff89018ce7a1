-- How far links have come, by their newest fragments.
use Rattle.std.specs.Prelude.{ℕ, ◌≡◌, ◌+◌, ◌≤◌, ◌==◌, ◌&&◌, nat_le, Bool, false, List, Option, Some, None, if◌then◌else◌, slice_get}
use Rattle.std.specs.Option.{option_and_then, option_map_or}
use Rattle.std.specs.List.{Contains, list_any, list_all}
use Rattle.tl_beats.specs.Fragments.{Frag}
use Rattle.tl_definitions.specs.Positions.{Recorded}
use Rattle.tl_stream.specs.declared.fault.StreamFault.{StreamFault}
use Rattle.tl_stream.specs.declared.fault.StreamFault.TheVariants as fault
use Rattle.tl_stream.specs.declared.front.Front.{Front}

abbrev pub front_at : List (Option Front) → ℕ → Option Front
front_at fronts link = option_and_then (λ front. front) (slice_get fronts link)

-- a link has reached a cycle
abbrev pub has_reached : List (Option Front) → ℕ → ℕ → Bool
has_reached fronts cycle link = option_map_or (λ (f : Front). nat_le cycle f.last) (front_at fronts link) false

-- the first cycle past one that was reached
abbrev pub past : Option ℕ → ℕ
past None = 0
past (Some last) = last + 1

-- A fragment of the link ends with the cycle or after it.
abbrev pub is_covered : List Recorded → ℕ → ℕ → Bool
is_covered fs cycle link = list_any (λ f. f.link == link && nat_le cycle f.last) fs

-- A cycle is complete for links where each has a fragment that ends with it or after it.
abbrev pub is_complete : List ℕ → List Recorded → ℕ → Bool
is_complete links fs cycle = list_all (is_covered fs cycle) links

-- The newest fragment of the link is this one: no other has a higher number or a later range.
pub record IsNewest (link : ℕ) (fs : List Recorded) (front : Front) : Type 0 where
  pub one : (f : Recorded) × Contains fs f × (f.link ≡ link) × (f.number ≡ front.number) × (f.last ≡ front.last)
  pub numbers : (f : Recorded) → Contains fs f → f.link ≡ link → f.number ≤ front.number
  pub ranges : (f : Recorded) → Contains fs f → f.link ≡ link → f.last ≤ front.last

-- The front of the link is its newest fragment, if it has one.
abbrev pub IsFrontOf : ℕ → List Recorded → Option Front → Type 0
IsFrontOf link fs None = (f : Recorded) → Contains fs f → f.link ≡ link → ⊥
IsFrontOf link fs (Some front) = IsNewest link fs front

-- Why a fragment of a link with this front is refused, if it is.
abbrev pub refusal_of : Option Front → Frag → Option StreamFault
refusal_of None f = None
refusal_of (Some front) f = if nat_le f.number front.number then Some fault.NumberNotAbove else (if nat_le f.first front.last then Some (fault.RangeNotAfter front.number) else None)
