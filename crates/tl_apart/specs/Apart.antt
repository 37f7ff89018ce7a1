-- What links that are judged apart have found of the fragments that came.
use Rattle.std.specs.Prelude.{ℕ, ◌≡◌, ◌<◌, ◌≤◌, ◌==◌, ◌+◌, ◌++◌, ◌↔◌, true, List, [], ◌∷◌, Option, Some, None, length, slice_get, if◌then◌else◌}
use Rattle.std.specs.Arc.{arc_value}
use Rattle.std.specs.List.{Contains}
use Rattle.tl_topology.specs.Topology.{Topology, number_of_name}
use Rattle.tl_beats.specs.Fragments.{Frag}
use Rattle.tl_beats.specs.declared.Row.{Row}
use Rattle.tl_definitions.specs.Events.{Event, all_shown, left_by_events}
use Rattle.tl_definitions.specs.Judging.{snapshot}
use Rattle.tl_definitions.specs.Managers.{declared_links}
use Rattle.tl_definitions.specs.Positions.{Recorded, links_of}
use Rattle.tl_definitions.specs.Report.{FindsIn}
use Rattle.tl_capture.specs.Present.{recorded, IsPresent}
use Rattle.tl_check.specs.Captured.{captures_with}
use Rattle.tl_check.specs.Managers.{has_caches}
use Rattle.tl_apart.specs.Feeds.{waiting_of, AreSilent, IsNew}
use Rattle.tl_apart.specs.Holders as holders
use Rattle.tl_apart.specs.LinkJudge.{Shows}
use Rattle.tl_apart.specs.Told.{bare, clients, left_on, HasPassed, IsTold, ArePassed, AreFoundApart}
use Rattle.tl_apart.specs.declared.apart.Apart.{Apart}
use Rattle.tl_apart.specs.FeedData.{FeedData}
use Rattle.tl_apart.specs.declared.feed.Newest.{Newest}
use Rattle.tl_apart.specs.declared.listener.Listener.{Listener}

abbrev pub manager_of : Topology → ℕ → ℕ
manager_of topo link = (links_of (declared_links topo) link).manager

-- It is the fragment of the link that came last.
abbrev pub IsNewest : List Recorded → ℕ → Option Newest → Type 0
IsNewest fs link None = (f : Recorded) → Contains fs f → f.link ≡ link → ⊥
IsNewest fs link (Some n) = ((f : Recorded) → Contains fs f → f.link ≡ link → (f.number ≤ n.number) × (f.last ≤ n.last)) × HasPassed fs link n.last

-- The feed shows what the link's fragments leave.
pub record HasLeft (topo : Topology) (fs : List Recorded) (link : ℕ) (feed : FeedData) : Type 0 where
  pub shows : Shows (bare topo (manager_of topo link)).exponent feed.judge (left_on topo fs (manager_of topo link) link)
  pub newest : IsNewest fs link feed.newest

-- What a manager knows of its links after these events.
pub record Knows (topo : Topology) (k : ℕ) (judged : List Event) (listener : Listener) : Type 0 where
  pub numbers : listener.clients.items ≡ clients topo k
  pub own : holders.clients_of listener.holders ≡ clients topo k
  pub shows : holders.Shows listener.holders (left_by_events (all_shown (snapshot (bare topo k) [])) judged)

-- The rows of the links' own rules, and how many fragments came.
abbrev pub rows_in : List FeedData → List Row
rows_in [] = []
rows_in (feed ∷ feeds) = feed.rows ++ rows_in feeds

abbrev pub count_in : List FeedData → ℕ
count_in [] = 0
count_in (feed ∷ feeds) = feed.count + count_in feeds

-- These fragments came, and these events of each manager's links were judged, with these rows of the managers' rules.
pub record AreApart (topo : Topology) (fs : List Recorded) (judged : ℕ → List Event) (feeds : List FeedData) (listeners : List Listener) (rows : List Row) : Type 0 where
  pub present : IsPresent fs
  pub links : length feeds ≡ length topo.links
  pub left : (link : ℕ) (feed : FeedData) → slice_get feeds link ≡ Some feed → HasLeft topo fs link feed
  pub managers : length listeners ≡ length topo.managers
  pub known : (k : ℕ) (listener : Listener) → slice_get listeners k ≡ Some listener → Knows topo k (judged k) listener
  pub told : (k : ℕ) → k < length topo.managers → IsTold topo fs k (waiting_of feeds) (judged k)
  pub found : AreFoundApart topo fs judged (rows_in feeds ++ rows)
  pub counted : count_in feeds ≡ length fs

pub record IsApart (topo : Topology) (fs : List Recorded) (judged : ℕ → List Event) (apart : Apart) : Type 0 where
  pub on : arc_value apart.topo ≡ topo
  pub are : AreApart topo fs judged apart.feeds.items apart.listeners.items apart.rows.items

-- These fragments came. Of the links' events those were judged that no other comes before.
pub record HasApart (topo : Topology) (fs : List Recorded) (apart : Apart) : Type 0 where
  pub judged : ℕ → List Event
  pub is : IsApart topo fs judged apart
  pub passed : (k : ℕ) → k < length topo.managers → ArePassed topo fs k (judged k)

-- The fragment comes on its link, and this holds of that.
abbrev pub ComesOn : Topology → Frag → (Recorded → Type 0) → Type 0
ComesOn topo f Holds = (link : ℕ) × (number_of_name topo.links f.link ≡ Some link) × Holds (recorded link f)

-- With one event more of a manager.
abbrev pub with_one : (ℕ → List Event) → ℕ → Event → ℕ → List Event
with_one judged k e j = if j == k then judged j ++ e ∷ [] else judged j

-- All links with caches of a manager have come to this cycle.
abbrev pub IsReached : Topology → List Recorded → ℕ → ℕ → Type 0
IsReached topo fs k cycle = (link : ℕ) → Contains (clients topo k) link → has_caches topo link ≡ true → HasPassed fs link cycle

-- More events of a manager were judged, none of which lies after the cycle, if there is one.
pub record GoesOn (topo : Topology) (fs : List Recorded) (k : ℕ) (until : Option ℕ) (judged later : ℕ → List Event) (old new : Apart) : Type 0 where
  pub is : IsApart topo fs later new
  pub others : (j : ℕ) → (j ≡ k → ⊥) → later j ≡ judged j
  pub waits : (link : ℕ) → (Contains (clients topo k) link → ⊥) → waiting_of new.feeds.items link ≡ waiting_of old.feeds.items link
  pub passed : (cycle : ℕ) → until ≡ Some cycle → IsReached topo fs k cycle → ArePassed topo fs k (judged k) → ArePassed topo fs k (later k)

-- How many events wait.
abbrev pub total : List FeedData → ℕ
total [] = 0
total (feed ∷ feeds) = length feed.waiting + total feeds

-- The next event of the link was judged by its manager.
abbrev pub HasJudged : Topology → List Recorded → (ℕ → List Event) → Apart → Apart → ℕ → ℕ → Type 0
HasJudged topo fs judged old new k link = (e : Event) × (rest : List Event) × (waiting_of old.feeds.items link ≡ e ∷ rest) × IsApart topo fs (with_one judged k e) new
    × ((n : ℕ) → (n ≡ link → ⊥) → waiting_of new.feeds.items n ≡ waiting_of old.feeds.items n)

-- Of the first links no fragment came.
pub record AreOpened (topo : Topology) (count : ℕ) (feeds : List FeedData) : Type 0 where
  pub long : length feeds ≡ count
  pub each : (link : ℕ) (feed : FeedData) → slice_get feeds link ≡ Some feed → HasLeft topo [] link feed × IsNew feed

-- The first managers know nothing of their links.
pub record AreListening (topo : Topology) (count : ℕ) (listeners : List Listener) : Type 0 where
  pub long : length listeners ≡ count
  pub each : (k : ℕ) (listener : Listener) → slice_get listeners k ≡ Some listener → Knows topo k [] listener

-- The fragment of the link that came last ends in this cycle or after it.
abbrev pub HasComeTo : List FeedData → ℕ → ℕ → Type 0
HasComeTo feeds link cycle = (feed : FeedData) × (newest : Newest) × (slice_get feeds link ≡ Some feed) × (feed.newest ≡ Some newest) × (cycle ≤ newest.last)

-- So do those of all of these links that have caches.
abbrev pub HaveComeTo : Topology → List FeedData → List ℕ → ℕ → Type 0
HaveComeTo topo feeds links cycle = (link : ℕ) → Contains links link → has_caches topo link ≡ true → HasComeTo feeds link cycle

-- The first managers have judged all that their links told of these fragments.
pub record HaveEnded (topo : Topology) (fs : List Recorded) (count : ℕ) (apart : Apart) : Type 0 where
  pub judged : ℕ → List Event
  pub is : IsApart topo fs judged apart
  pub silent : (k : ℕ) → k < count → AreSilent apart.feeds.items (clients topo k)

-- None of the links' feeds is for nothing more.
abbrev pub AreWell : List FeedData → Type 0
AreWell feeds = (feed : FeedData) → Contains feeds feed → feed.fault ≡ None

-- This holds of whatever fragments came, and whatever events of one of the managers were judged.
abbrev pub OfManager : Apart → ℕ → (Topology → List Recorded → (ℕ → List Event) → Type 0) → Type 0
OfManager apart k Holds = (topo : Topology) (fs : List Recorded) (judged : ℕ → List Event) → IsApart topo fs judged apart → k < length topo.managers → Holds topo fs judged

-- This holds of whatever fragments came.
abbrev pub OfFragments : Apart → (Topology → List Recorded → Type 0) → Type 0
OfFragments apart Holds = (topo : Topology) (fs : List Recorded) → HasApart topo fs apart → Holds topo fs

-- The rows are those of the report of these fragments, in any order.
abbrev pub AreRowsOf : Topology → List Recorded → List Row → Type 0
AreRowsOf topo fs rows = IsPresent fs × ((row : Row) → Contains rows row ↔ FindsIn (captures_with topo fs [] []) row)
