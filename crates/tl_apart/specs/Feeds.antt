-- The links of a manager, and what they told that waits.
use Rattle.std.specs.Prelude.{ℕ, ◌≡◌, List, [], ◌∷◌, slice_get, Bool, true, ◌&&◌, nat_lt, nat_le, Option, Some, None, if◌then◌else◌}
use Rattle.std.specs.List.{Contains}
use Rattle.std.specs.Option.{option_map, option_map_or}
use denote.Ref.{Bor}
use Rattle.std.specs.declared.cmp.Ordering.TheVariants.{Less}
use Rattle.tl_beats.specs.Fragments.{Frag}
use Rattle.tl_beats.specs.declared.Placed.{Placed}
use Rattle.tl_definitions.specs.Events as definitions
use Rattle.tl_definitions.specs.Events.{event_order}
use Rattle.tl_definitions.specs.Positions.{lies_before}
use Rattle.tl_apart.specs.FeedData.{FeedData}
use Rattle.tl_apart.specs.declared.feed.Newest.{Newest}

-- A fragment comes after the newest of its link, by its number and its range.
abbrev pub comes_after : Option Newest → Frag → Bool
comes_after None f = true
comes_after (Some n) f = nat_lt n.number f.number && nat_lt n.last f.first

abbrev pub newest_with : Frag → Newest
newest_with f = record { number = f.number; last = f.last }

-- No fragment came.
pub record IsNew (feed : FeedData) : Type 0 where
  pub waiting : feed.waiting ≡ []
  pub rows : feed.rows ≡ []
  pub newest : feed.newest ≡ None
  pub count : feed.count ≡ 0

-- What waits of a link.
abbrev pub waiting : FeedData → List definitions.Event
waiting feed = feed.waiting

abbrev pub waiting_of : List FeedData → ℕ → List definitions.Event
waiting_of feeds link = option_map_or waiting (slice_get feeds link) []

-- A link, and where its next event is, as it is read there.
abbrev pub placed : Option (ℕ × Bor Placed) → Option (ℕ × Placed)
placed first = option_map (λ b. (b.0, b.1.now)) first

-- Of a link and one more with its next event, that which lies first, and where.
abbrev pub first_of : Option (ℕ × Placed) → ℕ → Option definitions.Event → Option (ℕ × Placed)
first_of first link None = first
first_of None link (Some e) = Some (link, e.place)
first_of (Some f) link (Some e) = if lies_before e.place f.1 then Some (link, e.place) else Some f

-- Each event that waits is of its link.
abbrev pub AreOwn : List FeedData → List ℕ → Type 0
AreOwn feeds clients = (link : ℕ) (e : definitions.Event) → Contains clients link → Contains (waiting_of feeds link) e → e.place.link ≡ link

-- Nothing waits.
abbrev pub AreSilent : List FeedData → List ℕ → Type 0
AreSilent feeds clients = (link : ℕ) → Contains clients link → waiting_of feeds link ≡ []

-- The next event of the link lies before the next of every other.
abbrev pub IsFirst : List FeedData → List ℕ → ℕ → Type 0
IsFirst feeds clients link = Contains clients link × (d : definitions.Event) × (rest : List definitions.Event) × (waiting_of feeds link ≡ d ∷ rest)
    × ((n : ℕ) (e : definitions.Event) (more : List definitions.Event) → Contains clients n → (n ≡ link → ⊥) → waiting_of feeds n ≡ e ∷ more → event_order d e ≡ Less)

-- The same, and this is where that event is.
abbrev pub IsFirstAt : List FeedData → List ℕ → ℕ → Placed → Type 0
IsFirstAt feeds clients link place = Contains clients link × (d : definitions.Event) × (rest : List definitions.Event) × (waiting_of feeds link ≡ d ∷ rest) × (d.place ≡ place)
    × ((n : ℕ) (e : definitions.Event) (more : List definitions.Event) → Contains clients n → (n ≡ link → ⊥) → waiting_of feeds n ≡ e ∷ more → event_order d e ≡ Less)

-- A cycle does not lie after this one, if there is one.
abbrev pub lies_by : Option ℕ → ℕ → Bool
lies_by None cycle = true
lies_by (Some last) cycle = nat_le cycle last

-- The same, where that event does not lie after the cycle, if there is one.
abbrev pub IsNext : List FeedData → List ℕ → Option ℕ → ℕ → Type 0
IsNext feeds clients until link = IsFirst feeds clients link
    × ((e : definitions.Event) (rest : List definitions.Event) → waiting_of feeds link ≡ e ∷ rest → lies_by until e.place.beat.cycle ≡ true)

-- Nothing waits, where there is no such cycle.
abbrev pub IsDone : List FeedData → List ℕ → Option ℕ → Type 0
IsDone feeds clients until = until ≡ None → AreSilent feeds clients
