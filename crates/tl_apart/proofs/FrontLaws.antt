-- How far the links of a manager have come.
use Rattle.std.proofs.Common.{◌≡◌, ℕ, ◌+◌, ◌<◌, ◌≤◌, inl, inr, true, List, [], ◌∷◌, Option, Some, None, length, take, get_or, sym, ap, subst, ◌∙◌, arith}
use Rattle.std.specs.Prelude.{slice_get, IfSome}
use Rattle.std.specs.List.{Contains}
use Rattle.std.proofs.lemmas.List.{take_more}
use Rattle.std.proofs.lemmas.List.Elements.{Contains-append_cases}
use Rattle.tl_topology.specs.Topology.{Topology}
use Rattle.tl_definitions.specs.Events.{Event}
use Rattle.tl_definitions.specs.Positions.{Recorded}
use Rattle.tl_definitions.proofs.Lists.{contains_none, contains_cases}
use Rattle.tl_check.specs.Managers.{has_caches}
use Rattle.tl_apart.specs.Apart.{HasComeTo, HaveComeTo, IsApart, IsNewest, IsReached}
use Rattle.tl_apart.specs.FeedData.{FeedData}
use Rattle.tl_apart.specs.Told.{clients, HasPassed}
use Rattle.tl_apart.specs.declared.apart.Apart.{Apart}
use Rattle.tl_apart.specs.declared.feed.Newest.{Newest}
use Rattle.tl_apart.specs.declared.listener.Listener.{Listener}

less : (feeds : List FeedData) (link low high : ℕ) → low ≤ high → HasComeTo feeds link high → HasComeTo feeds link low
less feeds link low high le had = (had.0, had.1, had.2, had.3, let top : high ≤ had.1.last = had.4 in omega (arith, le, top))

pub come_more : (topo : Topology) (feeds : List FeedData) (links : List ℕ) (i front own next : ℕ) → i < length links → HaveComeTo topo feeds (take i links) front
    → (has_caches topo (get_or links i 0) ≡ true → HasComeTo feeds (get_or links i 0) own) → next ≤ front → next ≤ own → HaveComeTo topo feeds (take (i + 1) links) next
come_more topo feeds links i front own next within had here low under link h caches =
    elim (Contains-append_cases (take i links) (get_or links i 0 ∷ []) link (subst (λ xs. Contains xs link) (take_more links i 0 within) h)) [
      | inl before ↦ less feeds link next front low (had link before caches)
      | inr last ↦ elim (contains_cases (get_or links i 0) [] link last) [
        | inl same ↦ less feeds link next own under (subst (λ n. HasComeTo feeds n own) same (here (ap (has_caches topo) same ∙ caches)))
        | inr none ↦ absurd (contains_none link none)
      ]
    ]

passed_by : (fs : List Recorded) (link cycle : ℕ) (n : Newest) (o : Option Newest) → o ≡ Some n → cycle ≤ n.last → IsNewest fs link o → HasPassed fs link cycle
passed_by fs link cycle n None is low had = absurd (cc)
passed_by fs link cycle n (Some m) is low had =
    let same : m ≡ n = cc in
    let top : m.last ≤ had.1.0.last = had.1.3 in
    let reach : cycle ≤ m.last = subst (λ (x : Newest). cycle ≤ x.last) (sym same) low in
    (had.1.0, had.1.1, had.1.2, omega (arith, top, reach))

pub reached : (topo : Topology) (fs : List Recorded) (judged : ℕ → List Event) (apart : Apart) (k front : ℕ) (links : List ℕ) → IsApart topo fs judged apart → links ≡ clients topo k
    → HaveComeTo topo apart.feeds.items links front → IsReached topo fs k front
reached topo fs judged apart k front links is same had link has caches =
    let come = had link (subst (λ ns. Contains ns link) (sym same) has) caches in
    passed_by fs link front come.1 come.0.newest come.3 come.4 (is.are.left link come.0 come.2).newest

pub all_reached : (topo : Topology) (fs : List Recorded) (judged : ℕ → List Event) (apart : Apart) (k : ℕ) (listener : Listener) → slice_get apart.listeners.items k ≡ Some listener → IsApart topo fs judged apart
    → (front : Option ℕ) → IfSome front (HaveComeTo topo apart.feeds.items listener.clients.items) → IfSome front (IsReached topo fs k)
all_reached topo fs judged apart k listener at is None come = come
all_reached topo fs judged apart k listener at is (Some front) come = reached topo fs judged apart k front listener.clients.items is (is.are.known k listener at).numbers come
