-- Links judged apart, put together.
use Rattle.std.proofs.Common.{◌≡◌, ℕ, ◌+◌, ◌⊎◌, inl, inr, ◌==◌, true, false, List, [], ◌∷◌, ◌++◌, append-nil, append_assoc, take, Option, Some, None, refl, sym, ap, subst, ◌∙◌}
use Rattle.std.specs.Prelude.{Bool, map, not, slice_get, slice_index, unwrap_or, ◌↔◌}
use Rattle.std.specs.Option.{option_map}
use Rattle.std.proofs.lemmas.Option.{slice_get-map, unwrap_or-slice_get}
use Rattle.std.specs.List.{Contains}
use Rattle.std.specs.List.Sorted.{IsStrictlySortedBy}
use Rattle.std.proofs.lemmas.List.Elements.{Contains-append_left, Contains-append_right, Contains-append_cases}
use Rattle.tl_topology.specs.Regions.{Area}
use Rattle.tl_topology.specs.Topology.{Topology}
use Rattle.tl_topology.specs.declared.LinkDecl.{LinkDecl}
use Rattle.tl_beats.specs.declared.Placed.{Placed}
use Rattle.tl_beats.specs.declared.Row.{Row}
use Rattle.tl_definitions.specs.declared.Unfinished.{Unfinished}
use Rattle.tl_definitions.specs.Breaks.{row_of}
use Rattle.tl_definitions.specs.Captures.{manager_beats}
use Rattle.tl_definitions.specs.Events.{IsMerged, Event, link_events, event_rows, all_shown}
use Rattle.tl_definitions.specs.Heads.{message_of}
use Rattle.tl_definitions.specs.Judging.{Snapshot, snapshot, judging}
use Rattle.tl_definitions.specs.LinkPasses.{LinkSnapshot, for_link, link_head, link_place, link_rules, link_next, link_judging, on_link}
use Rattle.tl_definitions.specs.Managers.{declared_links, manager_at}
use Rattle.tl_definitions.specs.Passes.{rows_judged}
use Rattle.tl_definitions.specs.Positions.{Recorded, beats_of, beats_of_all, clients_of, links_of, no_link, position_order}
use Rattle.tl_definitions.specs.Report.{of_manager}
use Rattle.tl_definitions.specs.Rules.{Manager}
use Rattle.tl_definitions.proofs.EventLaws.{passes_are_the_whole, events_merge, uncached_links_are_quiet}
use Rattle.tl_definitions.proofs.JudgingLaws.{all_exact}
use Rattle.tl_definitions.proofs.LinkLaws.{same_link}
use Rattle.tl_definitions.proofs.Lists.{contains_none, contains_here, contains_there, contains_cases, contains_kept, kept_from, mapped_from}
use Rattle.tl_definitions.proofs.ReportLaws.{rows_are_breaks}
use Rattle.tl_capture.specs.Present.{IsPresent}
use Rattle.tl_capture.proofs.LawLemmas.{links_are_kept, one_link_is_its_own}
use Rattle.tl_capture.proofs.PresentLemmas.{beats_rise, ranges_of}
use Rattle.tl_check.specs.Found.{AreFound}
use Rattle.tl_check.proofs.CaptureLaws.{link_of_beat, linked_in}
use Rattle.tl_check.proofs.ScratchLaws.{finds_alone}
use Rattle.tl_check.specs.Jobs.{Judges}
use Rattle.tl_check.specs.States.{shown}
use Rattle.tl_check.specs.declared.state.SpanState.{SpanState}
use Rattle.tl_check.proofs.ListLaws.{take_more}
use Rattle.tl_check.specs.Apart.{one_link, opening, judged_rows, rows_of_links}
use Rattle.tl_check.specs.Managers.{has_caches, cached_links, plain_links, IsPlain, AreMerged}

-- ---- a link's judge reads no link but its own

abbrev alone : Manager → LinkDecl → Manager
alone m decl = one_link decl m.exponent m.regions

place_alone : (m : Manager) (s : LinkSnapshot) (p : Placed) (burst : Option Unfinished) → link_place m s p burst ≡ link_place (alone m (m.links p.link)) s p burst
place_alone m s p None = elim (message_of (m.links p.link) p.beat) as (λ found. link_head m s p found ≡ link_head (alone m (m.links p.link)) s p found) [ None ↦ refl | Some o ↦ refl ]
place_alone m s p (Some burst) = refl

rules_alone : (m : Manager) (decl : LinkDecl) (s : LinkSnapshot) (p : Placed) → m.links p.link ≡ decl → link_rules m s p ≡ link_rules (alone m decl) s p
rules_alone m decl s p is = place_alone m s p (s.burst p.beat.chan) ∙ ap (λ d. link_place (alone m d) s p (s.burst p.beat.chan)) is

next_alone : (m : Manager) (decl : LinkDecl) (s : LinkSnapshot) (p : Placed) → m.links p.link ≡ decl → link_next m s p ≡ link_next (alone m decl) s p
next_alone m decl s p is = ap (λ d. link_next (alone m d) s p) is

pub rows_alone : (m : Manager) (decl : LinkDecl) (s : LinkSnapshot) (beats : List Placed) → ((p : Placed) → Contains beats p → m.links p.link ≡ decl)
    → rows_judged (link_judging m) s beats ≡ rows_judged (link_judging (alone m decl)) s beats
rows_alone m decl s [] all = refl
rows_alone m decl s (p ∷ beats) all =
    let is : m.links p.link ≡ decl = all p (contains_here p beats) in
    ap (λ rules. map (row_of p) rules ++ rows_judged (link_judging m) (link_next m s p) beats) (rules_alone m decl s p is)
    ∙ ap (λ t. map (row_of p) (link_rules (alone m decl) s p) ++ rows_judged (link_judging m) t beats) (next_alone m decl s p is)
    ∙ ap (λ rows. map (row_of p) (link_rules (alone m decl) s p) ++ rows)
    (rows_alone m decl (link_next (alone m decl) s p) beats (λ q h. all q (contains_there p beats q h)))

-- ---- the rows of one link

-- A row is of a beat of the link.
row_from : (m : Manager) (s : LinkSnapshot) (beats : List Placed) (row : Row) → Contains (rows_judged (link_judging m) s beats) row
    → (q : Placed) × Contains beats q × (row.link ≡ q.link)
row_from m s [] row h = absurd (contains_none row h)
row_from m s (p ∷ beats) row h = elim (Contains-append_cases (map (row_of p) (link_rules m s p)) (rows_judged (link_judging m) (link_next m s p) beats) row h) [
  | inl a ↦ (let found = mapped_from (row_of p) (link_rules m s p) row a in (p, contains_here p beats, ap (λ (r : Row). r.link) (sym found.2)))
  | inr b ↦ (let known = row_from m (link_next m s p) beats row b in (known.0, contains_there p beats known.0 known.1, known.2))
]

-- One beat more.
pub rows_on : (m : Manager) (s next : LinkSnapshot) (ps rest : List Placed) (p : Placed) (rows more total : List Row) → ps ≡ p ∷ rest
    → more ≡ rows ++ map (row_of p) (link_rules m s p) → next ≡ link_next m s p → rows ++ rows_judged (link_judging m) s ps ≡ total
    → more ++ rows_judged (link_judging m) next rest ≡ total
rows_on m s next ps rest p rows more total steps put is found =
    let own : List Row = map (row_of p) (link_rules m s p) in
    ap (λ (rs : List Row). rs ++ rows_judged (link_judging m) next rest) put ∙ ap (λ t. (rows ++ own) ++ rows_judged (link_judging m) t rest) is
    ∙ append_assoc rows own (rows_judged (link_judging m) (link_next m s p) rest) ∙ sym (ap (λ qs. rows ++ rows_judged (link_judging m) s qs) steps) ∙ found

-- ---- the rows of several links

pub links_more : (m : Manager) (fs : List Recorded) (links : List ℕ) (link : ℕ) → rows_of_links m fs (links ++ link ∷ []) ≡ rows_of_links m fs links ++ judged_rows m (beats_of link fs)
links_more m fs [] link = append-nil (judged_rows m (beats_of link fs))
links_more m fs (first ∷ links) link =
    ap (λ rows. judged_rows m (beats_of first fs) ++ rows) (links_more m fs links link)
    ∙ sym (append_assoc (judged_rows m (beats_of first fs)) (rows_of_links m fs links) (judged_rows m (beats_of link fs)))

some_link : (m : Manager) (fs : List Recorded) (links : List ℕ) (row : Row) → Contains (rows_of_links m fs links) row
    → (link : ℕ) × Contains links link × Contains (judged_rows m (beats_of link fs)) row
some_link m fs [] row h = absurd (contains_none row h)
some_link m fs (link ∷ links) row h = elim (Contains-append_cases (judged_rows m (beats_of link fs)) (rows_of_links m fs links) row h) [
  | inl a ↦ (link, contains_here link links, a)
  | inr b ↦ (let known = some_link m fs links row b in (known.0, contains_there link links known.0 known.1, known.2))
]

each_link : (m : Manager) (fs : List Recorded) (links : List ℕ) (link : ℕ) (row : Row) → Contains links link → Contains (judged_rows m (beats_of link fs)) row
    → Contains (rows_of_links m fs links) row
each_link m fs [] link row has h = absurd (contains_none link has)
each_link m fs (first ∷ links) link row has h = elim (contains_cases first links link has) [
  | inl is ↦ Contains-append_left (judged_rows m (beats_of first fs)) (rows_of_links m fs links) row (subst (λ n. Contains (judged_rows m (beats_of n fs)) row) (sym is) h)
  | inr there ↦ Contains-append_right (judged_rows m (beats_of first fs)) (rows_of_links m fs links) row (each_link m fs links link row there h)
]

-- ---- a manager some links of which have caches

module _ (topo : Topology) (fs : List Recorded) (is : IsPresent fs) (manager : ℕ) (areas : List Area) where
  abbrev m : Manager
  m = manager_at topo manager areas

  abbrev clients : List ℕ
  clients = clients_of manager (declared_links topo)

  abbrev beats : List Placed
  beats = manager_beats topo fs manager

  abbrev cached : List Placed
  cached = beats_of_all (cached_links topo clients) fs

  abbrev start : Snapshot
  start = snapshot m []

  -- A link with caches has the same beats among those of all links and among those of links with caches.
  kept_there : (link : ℕ) → has_caches topo link ≡ true → Contains clients link → on_link link cached ≡ on_link link beats
  kept_there link e has = links_are_kept (cached_links topo clients) fs link is (contains_kept (has_caches topo) clients link has e) ∙ sym (links_are_kept clients fs link is has)

  client_of : (link : ℕ) (p : Placed) → Contains (on_link link beats) p → Contains clients link
  client_of link p h =
      let kept = kept_from (λ (q : Placed). q.link == link) beats p h in
      subst (Contains clients) (same_link p.link link kept.1) (linked_in topo fs is clients p kept.0)

  cached_of : (link : ℕ) (p : Placed) → Contains (on_link link cached) p → Contains (cached_links topo clients) link
  cached_of link p h =
      let kept = kept_from (λ (q : Placed). q.link == link) cached p h in
      subst (Contains (cached_links topo clients)) (same_link p.link link kept.1) (linked_in topo fs is (cached_links topo clients) p kept.0)

  on_both : (link : ℕ) → has_caches topo link ≡ true → on_link link cached ≡ on_link link beats
  on_both link low = elim (on_link link beats) as (λ ps. on_link link beats ≡ ps → on_link link cached ≡ on_link link beats) [
    | p ∷ ps ↦ λ e. kept_there link low (client_of link p (subst (λ qs. Contains qs p) (sym e) (contains_here p ps)))
    | [] ↦ λ e. elim (on_link link cached) as (λ qs. on_link link cached ≡ qs → on_link link cached ≡ on_link link beats) [
      | q ∷ qs ↦ λ g. kept_there link low (kept_from (has_caches topo) clients link (cached_of link q (subst (λ rs. Contains rs q) (sym g) (contains_here q qs)))).0
      | [] ↦ λ g. g ∙ sym e
    ] refl
  ] refl

  -- So both have the same events: a link without caches has none.
  same_events : (link : ℕ) → link_events m (for_link link start) (on_link link cached) ≡ link_events m (for_link link start) (on_link link beats)
  same_events link = elim (has_caches topo link) as (λ b. has_caches topo link ≡ b → link_events m (for_link link start) (on_link link cached) ≡ link_events m (for_link link start) (on_link link beats)) [
    | true ↦ λ e. ap (link_events m (for_link link start)) (on_both link e)
    | false ↦ λ e. uncached_links_are_quiet m link (for_link link start) cached e ∙ sym (uncached_links_are_quiet m link (for_link link start) beats e)
  ] refl

  cached_rise : IsStrictlySortedBy position_order cached
  cached_rise = beats_rise (cached_links topo clients) fs (ranges_of fs is)

  events : List Event
  events = (events_merge m start cached cached_rise).0

  merged_there : IsMerged m start cached events
  unfolding events
  merged_there = (events_merge m start cached cached_rise).1

  merged_here : IsMerged m start beats events
  merged_here = record { rises = merged_there.rises; each = λ link. merged_there.each link ∙ same_events link }

  abbrev Own : List Placed → Row → Type 0
  Own ps row = Contains (rows_judged (link_judging m) (for_link row.link start) (on_link row.link ps)) row

  abbrev Among : Row → Type 0
  Among row = Contains (event_rows m.clients (all_shown start) events) row

  all_rows : (row : Row) → Contains (rows_judged (judging m) start beats) row ↔ (Own beats row ⊎ Among row)
  all_rows row = (passes_are_the_whole m start beats events (beats_rise clients fs (ranges_of fs is)) merged_here).0 row

  cached_rows : (row : Row) → Contains (rows_judged (judging m) start cached) row ↔ (Own cached row ⊎ Among row)
  cached_rows row = (passes_are_the_whole m start cached events cached_rise merged_there).0 row

  -- What is found of a link among all beats is what is found of its own.
  own : (link : ℕ) → Contains clients link → rows_judged (link_judging m) (for_link link start) (on_link link beats) ≡ judged_rows m (beats_of link fs)
  own link has = ap (λ ps. rows_judged (link_judging m) (opening m.exponent) ps) (links_are_kept clients fs link is has)

  -- A row of a link without caches is one of all beats, and so is one of the links with caches.
  from_plain : (row : Row) → Contains (rows_of_links m fs (plain_links topo clients)) row → Contains (rows_judged (judging m) start beats) row
  from_plain row h =
      let found = some_link m fs (plain_links topo clients) row h in
      let from = row_from m (opening m.exponent) (beats_of found.0 fs) row found.2 in
      let at : row.link ≡ found.0 = from.2 ∙ link_of_beat found.0 fs from.0 from.1 in
      let has : Contains clients row.link = subst (Contains clients) (sym at) (kept_from (λ link. not (has_caches topo link)) clients found.0 found.1).0 in
      let here : Contains (judged_rows m (beats_of row.link fs)) row = subst (λ n. Contains (judged_rows m (beats_of n fs)) row) (sym at) found.2 in
      (all_rows row).1 (inl (subst (λ rs. Contains rs row) (sym (own row.link has)) here))

  from_cached : (row : Row) → Contains (rows_judged (judging m) start cached) row → Contains (rows_judged (judging m) start beats) row
  from_cached row h = elim ((cached_rows row).0 h) [
    | inl here ↦ (let from = row_from m (for_link row.link start) (on_link row.link cached) row here in
        let low = (kept_from (has_caches topo) clients row.link (cached_of row.link from.0 from.1)).1 in
        (all_rows row).1 (inl (subst (λ ps. Contains (rows_judged (link_judging m) (for_link row.link start) ps) row) (on_both row.link low) here)))
    | inr event ↦ (all_rows row).1 (inr event)
  ]

  -- A row of all beats is one or the other.
  from_all : (row : Row) → Contains (rows_judged (judging m) start beats) row
      → Contains (rows_of_links m fs (plain_links topo clients)) row ⊎ Contains (rows_judged (judging m) start cached) row
  from_all row h = elim ((all_rows row).0 h) [
    | inl here ↦ (let from = row_from m (for_link row.link start) (on_link row.link beats) row here in
        let has : Contains clients row.link = client_of row.link from.0 from.1 in
        elim (has_caches topo row.link) as (λ b. has_caches topo row.link ≡ b
        → Contains (rows_of_links m fs (plain_links topo clients)) row ⊎ Contains (rows_judged (judging m) start cached) row) [
          | true ↦ λ e. inr ((cached_rows row).1 (inl (subst (λ ps. Contains (rows_judged (link_judging m) (for_link row.link start) ps) row) (sym (on_both row.link e)) here)))
          | false ↦ λ e. inl (each_link m fs (plain_links topo clients) row.link row (contains_kept (λ link. not (has_caches topo link)) clients row.link has (ap not e))
              (subst (λ rs. Contains rs row) (own row.link has) here))
        ] refl)
    | inr event ↦ inr ((cached_rows row).1 (inr event))
  ]

  pub links_are_found : (one two rows : List Row) → one ≡ rows_of_links m fs (plain_links topo clients) → AreMerged m cached two → rows ≡ one ++ two
      → AreFound (of_manager m beats ∷ []) rows
  links_are_found one two rows plain merged put row = (
    (λ h. let whole : Contains (rows_judged (judging m) start beats) row = elim (Contains-append_cases one two row (subst (λ rs. Contains rs row) put h)) [
      | inl a ↦ from_plain row (subst (λ rs. Contains rs row) plain a)
      | inr b ↦ from_cached row ((merged row).0 b)
    ] in
        (of_manager m beats, contains_here (of_manager m beats) [], (rows_are_breaks m beats row).0 (subst (λ rs. Contains rs row) (all_exact m [] beats) whole))),
    (λ found. let broken = (rows_are_breaks m beats row).1 (finds_alone (of_manager m beats) row found) in
        subst (λ rs. Contains rs row) (sym put) (elim (from_all row (subst (λ rs. Contains rs row) (sym (all_exact m [] beats)) broken)) [
          | inl a ↦ Contains-append_left one two row (subst (λ rs. Contains rs row) (sym plain) a)
          | inr b ↦ Contains-append_right one two row ((merged row).1 b)
        ])),
  )

-- Links without caches are such, and those of a manager are of its topology.
pub plain_each : (topo : Topology) (links : List ℕ) (link : ℕ) → Contains (plain_links topo links) link → IsPlain topo link
plain_each topo links link h = turned (has_caches topo link) (kept_from (λ link. not (has_caches topo link)) links link h).1
  where
    turned : (b : Bool) → not b ≡ true → b ≡ false
    turned true e = cc
    turned false e = refl

pub rows_end : (m : Manager) (s : LinkSnapshot) (ps : List Placed) (rows total : List Row) → ps ≡ [] → rows ++ rows_judged (link_judging m) s ps ≡ total → rows ≡ total
rows_end m s ps rows total none found = sym (append-nil rows) ∙ ap (λ qs. rows ++ rows_judged (link_judging m) s qs) (sym none) ∙ found

-- The link of a number, and one link more.
pub declared_or : (topo : Topology) (link : ℕ) (found : Option LinkDecl) → found ≡ option_map (λ p. p.1) (slice_get topo.links link)
    → unwrap_or found no_link ≡ links_of (declared_links topo) link
declared_or topo link found is =
    ap (λ o. unwrap_or o no_link) (is ∙ sym (slice_get-map (λ p. p.1) topo.links link)) ∙ unwrap_or-slice_get (declared_links topo) link no_link

pub declared : (topo : Topology) (link : ℕ) (decl : LinkDecl) → Some decl ≡ option_map (λ p. p.1) (slice_get topo.links link) → decl ≡ links_of (declared_links topo) link
declared topo link decl is =
    ap (λ o. unwrap_or o no_link) (is ∙ sym (slice_get-map (λ p. p.1) topo.links link)) ∙ unwrap_or-slice_get (declared_links topo) link no_link

pub block_is : (topo : Topology) (manager exponent : ℕ) → Some exponent ≡ option_map (λ p. p.1) (slice_get topo.managers manager)
    → exponent ≡ slice_index (map (λ p. p.1) topo.managers) manager
block_is topo manager exponent is =
    ap (λ o. unwrap_or o 0) (is ∙ sym (slice_get-map (λ p. p.1) topo.managers manager)) ∙ unwrap_or-slice_get (map (λ p. p.1) topo.managers) manager 0

pub one_link_more : (topo : Topology) (fs : List Recorded) (is : IsPresent fs) (manager : ℕ) (areas : List Area) (decl : LinkDecl) (exponent : ℕ) (links : List ℕ) (link k : ℕ)
    (walk : List Placed) (rows more : List Row) → decl ≡ links_of (declared_links topo) link → exponent ≡ (manager_at topo manager areas).exponent
    → walk ≡ beats_of_all (link ∷ []) fs → slice_get links k ≡ Some link → rows ≡ rows_of_links (manager_at topo manager areas) fs (take k links)
    → more ≡ rows ++ judged_rows (one_link decl exponent areas) walk → more ≡ rows_of_links (manager_at topo manager areas) fs (take (k + 1) links)
one_link_more topo fs is manager areas decl exponent links link k walk rows more known block walked at before put =
    let m : Manager = manager_at topo manager areas in
    let beats : List Placed = beats_of link fs in
    put ∙ ap (λ rs. rs ++ judged_rows (one_link decl exponent areas) walk) before
    ∙ ap (λ rs. rows_of_links m fs (take k links) ++ rs) (ap (judged_rows (one_link decl exponent areas)) (walked ∙ one_link_is_its_own link fs is)
    ∙ ap (λ d. judged_rows (one_link d exponent areas) beats) known ∙ ap (λ e. judged_rows (one_link (m.links link) e areas) beats) block
    ∙ sym (rows_alone m (m.links link) (opening m.exponent) beats (λ p h. ap m.links (link_of_beat link fs p h))))
    ∙ sym (links_more m fs (take k links) link) ∙ ap (rows_of_links m fs) (sym (take_more links k link at))

-- A window of beats from the beginning has their rows.
pub merged_are : (m : Manager) (entry exit : SpanState) (walk beats : List Placed) (rows : List Row) → shown entry ≡ snapshot m [] → walk ≡ beats
    → Judges m entry walk exit rows → AreMerged m beats rows
merged_are m entry exit walk beats rows opens are judges row =
    let all : rows_judged (judging m) (shown entry) walk ≡ rows_judged (judging m) (snapshot m []) beats =
    ap (λ s. rows_judged (judging m) s walk) opens ∙ ap (rows_judged (judging m) (snapshot m [])) are in
    ((λ h. subst (λ rs. Contains rs row) all ((judges.1.members row).0 h)), (λ h. (judges.1.members row).1 (subst (λ rs. Contains rs row) (sym all) h)))
