-- Links that take fragments beside each other.
use Rattle.std.specs.Prelude.{ℕ, suc, ◌≡◌, ◌<◌, ◌+◌, ◌++◌, true, List, [], ◌∷◌, Some, length}
use Rattle.std.specs.List.{Contains}
use Rattle.tl_topology.specs.Topology.{Topology, number_of_name}
use Rattle.tl_beats.specs.Fragments.{Frag}
use Rattle.tl_definitions.specs.Events.{link_events}
use Rattle.tl_definitions.specs.LinkPasses.{LinkSnapshot, link_judging}
use Rattle.tl_definitions.specs.Passes.{rows_judged, left_after}
use Rattle.tl_definitions.specs.Positions.{Recorded, placed_beats}
use Rattle.tl_definitions.specs.Rules.{Manager}
use Rattle.tl_capture.specs.Present.{recorded, put_in, IsCapture}
use Rattle.tl_apart.specs.Apart.{manager_of}
use Rattle.tl_apart.specs.FeedData.{FeedData}
use Rattle.tl_apart.specs.Feeds.{comes_after, newest_with}
use Rattle.tl_apart.specs.LinkJudge.{Shows}
use Rattle.tl_apart.specs.Told.{bare, clients}

-- This holds of a link's manager, and of whatever the link's judge shows.
abbrev pub ForLeft : Topology → ℕ → FeedData → (Manager → LinkSnapshot → Type 0) → Type 0
ForLeft topo link feed Holds = (s : LinkSnapshot) → Shows (bare topo (manager_of topo link)).exponent feed.judge s → Holds (bare topo (manager_of topo link)) s

-- A link of the topology takes a fragment of its own, which comes after those before.
pub record Takes (topo : Topology) (link : ℕ) (f : Frag) (old new : FeedData) : Type 0 where
  pub named : number_of_name topo.links f.link ≡ Some link
  pub managed : manager_of topo link < length topo.managers
  pub client : Contains (clients topo (manager_of topo link)) link
  pub own : IsCapture (recorded link f)
  pub late : comes_after old.newest f ≡ true
  pub shows : ForLeft topo link old (λ m s. Shows m.exponent new.judge (left_after (link_judging m) s (placed_beats (recorded link f))))
  pub waits : ForLeft topo link old (λ m s. new.waiting ≡ old.waiting ++ link_events m s (placed_beats (recorded link f)))
  pub rows : ForLeft topo link old (λ m s. new.rows ≡ old.rows ++ rows_judged (link_judging m) s (placed_beats (recorded link f)))
  pub newest : new.newest ≡ Some (newest_with f)
  pub count : new.count ≡ old.count + 1

-- It takes these, one after the other.
abbrev pub Follows : Topology → ℕ → List Frag → FeedData → FeedData → Type 0
Follows topo link [] old new = new ≡ old
Follows topo link (f ∷ fs) old new = (mid : FeedData) × Takes topo link f old mid × Follows topo link fs mid new

-- From one number on, each link takes its own.
abbrev pub EachFollows : Topology → ℕ → List (List Frag) → List FeedData → List FeedData → Type 0
EachFollows topo link [] [] [] = Unit {0}
EachFollows topo link (fs ∷ each) (old ∷ olds) (new ∷ news) = Follows topo link fs old new × EachFollows topo (suc link) each olds news
EachFollows topo link each olds news = ⊥

-- What stands with these fragments of a link, and with those of each link from one number on.
abbrev pub puts : ℕ → List Frag → List Recorded → List Recorded
puts link [] stood = stood
puts link (f ∷ fs) stood = puts link fs (put_in (recorded link f) stood)

abbrev pub puts_from : ℕ → List (List Frag) → List Recorded → List Recorded
puts_from link [] stood = stood
puts_from link (fs ∷ each) stood = puts_from (suc link) each (puts link fs stood)
