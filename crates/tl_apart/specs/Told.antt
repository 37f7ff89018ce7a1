-- Links that are judged apart, and what they told their manager.
use Rattle.std.specs.Prelude.{ℕ, ◌≡◌, ◌<◌, ◌≤◌, ◌==◌, ◌++◌, ◌⊎◌, ◌↔◌, true, List, [], filter, length}
use Rattle.std.specs.List.{Contains}
use Rattle.std.specs.List.Sorted.{IsStrictlySortedBy}
use Rattle.std.specs.declared.cmp.Ordering.TheVariants.{Less}
use Rattle.tl_topology.specs.Topology.{Topology}
use Rattle.tl_beats.specs.declared.Row.{Row}
use Rattle.tl_definitions.specs.Events.{Event, event_order, event_rows, link_events, all_shown}
use Rattle.tl_definitions.specs.Judging.{snapshot}
use Rattle.tl_definitions.specs.LinkPasses.{LinkSnapshot, link_judging}
use Rattle.tl_definitions.specs.Managers.{declared_links, manager_at}
use Rattle.tl_definitions.specs.Passes.{left_after}
use Rattle.tl_definitions.specs.Positions.{Recorded, beats_of, clients_of}
use Rattle.tl_definitions.specs.Rules.{Manager}
use Rattle.tl_check.specs.Apart.{opening, judged_rows}
use Rattle.tl_check.specs.Managers.{has_caches}

-- The fragment comes after all of its link.
abbrev pub IsAfter : List Recorded → Recorded → Type 0
IsAfter fs f = (g : Recorded) → Contains fs g → g.link ≡ f.link → g.last < f.first

-- A manager without regions, and the numbers of its links.
abbrev pub bare : Topology → ℕ → Manager
bare topo k = manager_at topo k []

abbrev pub clients : Topology → ℕ → List ℕ
clients topo k = clients_of k (declared_links topo)

-- What the fragments of a link of a manager leave, and what they tell the manager.
abbrev pub left_on : Topology → List Recorded → ℕ → ℕ → LinkSnapshot
left_on topo fs k link = left_after (link_judging (bare topo k)) (opening (bare topo k).exponent) (beats_of link fs)

abbrev pub told_on : Topology → List Recorded → ℕ → ℕ → List Event
told_on topo fs k link = link_events (bare topo k) (opening (bare topo k).exponent) (beats_of link fs)

abbrev pub on : ℕ → List Event → List Event
on link events = filter (λ e. e.place.link == link) events

-- A fragment of the link ends in this cycle or after it.
abbrev pub HasPassed : List Recorded → ℕ → ℕ → Type 0
HasPassed fs link cycle = (f : Recorded) × Contains fs f × (f.link ≡ link) × (cycle ≤ f.last)

-- Of what the links of a manager told by their fragments, these events were judged in their order, and these of each link wait.
pub record IsTold (topo : Topology) (fs : List Recorded) (k : ℕ) (waiting : ℕ → List Event) (judged : List Event) : Type 0 where
  pub rises : IsStrictlySortedBy event_order judged
  pub own : (e : Event) → Contains judged e → Contains (clients topo k) e.place.link
  pub each : (link : ℕ) → Contains (clients topo k) link → on link judged ++ waiting link ≡ told_on topo fs k link
  pub before : (e d : Event) (link : ℕ) → Contains judged e → Contains (clients topo k) link → Contains (waiting link) d → event_order e d ≡ Less

-- No link with caches of a manager will have a beat before these events, or beside them.
abbrev pub ArePassed : Topology → List Recorded → ℕ → List Event → Type 0
ArePassed topo fs k judged = (e : Event) (link : ℕ) → Contains judged e → Contains (clients topo k) link → has_caches topo link ≡ true → HasPassed fs link e.place.beat.cycle

-- What a manager finds in events from the first on.
abbrev pub rows_of_events : Topology → ℕ → List Event → List Row
rows_of_events topo k events = event_rows (clients topo k) (all_shown (snapshot (bare topo k) [])) events

-- What is found of a link's own rules.
abbrev pub rows_of_link : Topology → List Recorded → ℕ → ℕ → List Row
rows_of_link topo fs k link = judged_rows (bare topo k) (beats_of link fs)

-- A row of a link's own rules, or of its manager's rules over the events of its links.
abbrev pub IsOfLink : Topology → List Recorded → Row → Type 0
IsOfLink topo fs row = (k : ℕ) × (k < length topo.managers) × Contains (clients topo k) row.link × Contains (rows_of_link topo fs k row.link) row

abbrev pub IsOfEvent : Topology → (ℕ → List Event) → Row → Type 0
IsOfEvent topo judged row = (k : ℕ) × (k < length topo.managers) × Contains (rows_of_events topo k (judged k)) row

-- The rows are those of the links' own rules in all their beats, and of their managers' rules in the events that were judged.
abbrev pub AreFoundApart : Topology → List Recorded → (ℕ → List Event) → List Row → Type 0
AreFoundApart topo fs judged rows = (row : Row) → Contains rows row ↔ (IsOfLink topo fs row ⊎ IsOfEvent topo judged row)
