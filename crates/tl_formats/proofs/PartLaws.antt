-- Some managers apart: each row of the report of all that is of their links is theirs, and they have no other.
use Rattle.std.proofs.Common.{◌≡◌, ℕ, ◌+◌, ◌<◌, ◌≤◌, ◌==◌, inl, inr, Bool, true, false, cond, List, [], ◌∷◌, ◌++◌, Option, Some, None, length, get_or, refl, sym, ap, subst, ◌∙◌, arith}
use Rattle.std.specs.Prelude.{filter, map, slice_get, ◌||◌}
use Rattle.std.specs.Option.{option_map_or}
use Rattle.std.specs.List.{Contains, list_any}
use Rattle.std.specs.List.Sorted.{IsStrictlySortedBy}
use Rattle.std.proofs.lemmas.Bool.Decides.{nat_tests}
use Rattle.std.proofs.lemmas.List.{length-map}
use Rattle.std.proofs.lemmas.List.Elements.{Contains-append_left, Contains-append_right, Contains-append_cases}
use Rattle.std.proofs.lemmas.List.Kept.{IsStrictlySortedBy-filter}
use Rattle.std.proofs.lemmas.Option.{slice_get-get_or}
use Rattle.tl_topology.specs.Regions.{Area}
use Rattle.tl_topology.specs.Topology.{Topology, number_of_name}
use Rattle.tl_topology.specs.declared.LinkDecl.{LinkDecl}
use Rattle.tl_beats.specs.Watches.{link_of}
use Rattle.tl_beats.specs.declared.Placed.{Placed}
use Rattle.tl_beats.specs.declared.Row.{Row}
use Rattle.tl_beats.specs.declared.watch.Watch.{Watch}
use Rattle.tl_definitions.specs.Captures.{captures_from, captures_of, manager_beats}
use Rattle.tl_definitions.specs.Managers.{declared_links, manager_at}
use Rattle.tl_definitions.specs.Positions.{Recorded, all_placed, beats_of, by_range, clients_of, in_order, links_of, no_link}
use Rattle.tl_definitions.specs.Report.{Capture, of_manager, of_monitor, captured, Finds, FindsIn, IsReport, key_order}
use Rattle.tl_definitions.proofs.Lists.{contains_none, contains_here, contains_there, contains_cases, contains_kept, contains_mapped, kept_from, mapped_from, none_kept}
use Rattle.tl_definitions.proofs.PositionLaws.{beats_are_in_order}
use Rattle.tl_definitions.proofs.ReportLaws.{key_total, stands_in, strict_one}
use Rattle.tl_client_rules.proofs.ClientsLaws.{clients_below}
use Rattle.tl_client_rules.proofs.DeclaredLaws.{client_is_declared}
use Rattle.tl_capture.proofs.PresentLemmas.{placed_is_of}
use Rattle.tl_check.proofs.CaptureLaws.{capture_with, link_of_beat, number_below}
use Rattle.tl_check.specs.Captured.{areas_at, captures_with, watch_capture, watch_captures, watched_beats}
use Rattle.tl_formats.specs.Parts.{Share, has_link, own_fragments, own_watches, own_rows, HaveSameRegions, IsPart, PartsAreApart}

-- ---- what is kept twice

no_true : (b : Bool) → (b ≡ true → ⊥) → b ≡ false
no_true true h = absurd (h refl)
no_true false h = refl

module _ {X : Type 0} (p own : X → Bool) where
  -- Where what is kept is kept anyway.
  pub kept_anyway : (xs : List X) → ((x : X) → p x ≡ true → own x ≡ true) → filter p (filter own xs) ≡ filter p xs
  kept_anyway [] h = refl
  kept_anyway (x ∷ xs) h = elim (own x) as (λ b. own x ≡ b → filter p (cond b (x ∷ filter own xs) (filter own xs)) ≡ cond (p x) (x ∷ filter p xs) (filter p xs)) [
    | true ↦ λ e. ap (λ ys. cond (p x) (x ∷ ys) ys) (kept_anyway xs h)
    | false ↦ λ e. (let fails : p x ≡ false = no_true (p x) (λ t. let wrong : true ≡ false = sym (h x t) ∙ e in cc) in
        kept_anyway xs h ∙ sym (ap (λ b. cond b (x ∷ filter p xs) (filter p xs)) fails))
  ] refl

  -- Where nothing that is kept passes.
  pub kept_never : (xs : List X) → ((x : X) → p x ≡ true → own x ≡ false) → filter p (filter own xs) ≡ []
  kept_never xs h = none_kept p (filter own xs) (λ x k. no_true (p x) (λ t. let wrong : true ≡ false = sym (kept_from own xs x k).1 ∙ h x t in cc))

-- ---- links and their managers

any_is : (n : ℕ) (links : List ℕ) → list_any (λ link. n == link) links ≡ true → Contains links n
any_is n [] h = absurd (cc)
any_is n (link ∷ links) h = elim (n == link) as (λ b. (n == link) ≡ b → (b || list_any (λ link. n == link) links) ≡ true → Contains (link ∷ links) n) [
  | true ↦ λ e g. (let same : n ≡ link = grind (arith, nat_tests) in subst (Contains (link ∷ links)) (sym same) (contains_here link links))
  | false ↦ λ e g. contains_there link links n (any_is n links g)
] refl h

-- A link of a manager's is of that manager.
manager_is : (topo : Topology) (k link : ℕ) → Contains (clients_of k (declared_links topo)) link → (links_of (declared_links topo) link).manager ≡ k
manager_is topo k link h =
    let decls : List LinkDecl = declared_links topo in
    let found = client_is_declared k link decls h in
    let below : link < 0 + length decls = clients_below k 0 decls link h in
    let within : link < length decls = omega arith in
    let one : get_or decls link no_link ≡ found.0 = ap (λ o. option_map_or (λ (z : LinkDecl). z) o no_link) (sym (slice_get-get_or decls link no_link within) ∙ found.1) in
    ap (λ (d : LinkDecl). d.manager) one ∙ found.2

-- ---- the captures of managers

capture_from : {X : Type 0} (topo : Topology) (regions : ℕ → List Area) (fs : List Recorded) (number : ℕ) (managers : List X) (capture : Capture)
    → Contains (captures_from topo regions fs number managers) capture → (k : ℕ) × (number ≤ k) × (k < number + length managers) × (capture_with topo regions fs k ≡ capture)
capture_from topo regions fs number [] capture h = absurd (contains_none capture h)
capture_from topo regions fs number (m ∷ managers) capture h = elim (contains_cases (capture_with topo regions fs number) (captures_from topo regions fs (number + 1) managers) capture h) [
  | inl is ↦ (number, omega arith, omega arith, is)
  | inr there ↦ (let known = capture_from topo regions fs (number + 1) managers capture there in
      let from : number + 1 ≤ known.0 = known.1 in
      let below : known.0 < (number + 1) + length managers = known.2 in
      (known.0, omega arith, omega arith, known.3))
]

capture_there : {X : Type 0} (topo : Topology) (regions : ℕ → List Area) (fs : List Recorded) (number : ℕ) (managers : List X) (k : ℕ) → number ≤ k → k < number + length managers
    → Contains (captures_from topo regions fs number managers) (capture_with topo regions fs k)
capture_there topo regions fs number [] k from below = absurd (let lt : k < number + 0 = below in omega arith)
capture_there topo regions fs number (m ∷ managers) k from below = elim (k == number) as (λ t. (k == number) ≡ t → Contains (captures_from topo regions fs number (m ∷ managers)) (capture_with topo regions fs k)) [
  | true ↦ λ e. (let same : k ≡ number = grind (arith, nat_tests) in
      subst (λ n. Contains (captures_from topo regions fs number (m ∷ managers)) (capture_with topo regions fs n)) (sym same)
      (contains_here (capture_with topo regions fs number) (captures_from topo regions fs (number + 1) managers)))
  | false ↦ λ e. (let above : number + 1 ≤ k = grind (arith, nat_tests) in
      contains_there (capture_with topo regions fs number) (captures_from topo regions fs (number + 1) managers) (capture_with topo regions fs k)
      (capture_there topo regions fs (number + 1) managers k above (let less : k < number + length (m ∷ managers) = below in omega arith)))
] refl

-- A row that a manager's beats have is of one of its links.
row_of_manager : (topo : Topology) (regions : ℕ → List Area) (fs : List Recorded) (k : ℕ) (row : Row) → Finds (capture_with topo regions fs k) row → Contains (clients_of k (declared_links topo)) row.link
row_of_manager topo regions fs k row h =
    let links : List ℕ = clients_of k (declared_links topo) in
    let stands = stands_in (capture_with topo regions fs k) row h in
    let found = ((beats_are_in_order links fs).1 stands.0).0 stands.1 in
    let linked = (placed_is_of found.0.link found.0.number 2 found.0.beats stands.0 found.3).0 in
    subst (Contains links) (sym (ap (λ (r : Row). r.link) stands.2 ∙ linked)) (any_is found.0.link links found.2)

-- Without beats there is no row.
no_row : (capture : Capture) (row : Row) → captured capture ≡ [] → Finds capture row → ⊥
no_row capture row none h = let stands = stands_in capture row h in contains_none stands.0 (subst (λ ps. Contains ps stands.0) none stands.1)

module _ (topo : Topology) (share : Share) (fs : List Recorded) where
  abbrev own : List Recorded
  own = own_fragments topo share fs

  of_manager_link : (k : ℕ) (f : Recorded) → list_any (λ link. f.link == link) (clients_of k (declared_links topo)) ≡ true → has_link topo share f.link ≡ share k
  of_manager_link k f h = ap share (manager_is topo k f.link (any_is f.link (clients_of k (declared_links topo)) h))

  beats_own : (k : ℕ) → share k ≡ true → manager_beats topo own k ≡ manager_beats topo fs k
  beats_own k t = ap (λ gs. in_order (all_placed gs))
      (kept_anyway (λ (f : Recorded). list_any (λ link. f.link == link) (clients_of k (declared_links topo))) (λ (f : Recorded). has_link topo share f.link) fs (λ f h. of_manager_link k f h ∙ t))

  beats_none : (k : ℕ) → share k ≡ false → manager_beats topo own k ≡ []
  beats_none k e = ap (λ gs. in_order (all_placed gs))
      (kept_never (λ (f : Recorded). list_any (λ link. f.link == link) (clients_of k (declared_links topo))) (λ (f : Recorded). has_link topo share f.link) fs (λ f h. of_manager_link k f h ∙ e))

  link_own : (link : ℕ) → has_link topo share link ≡ true → beats_of link own ≡ beats_of link fs
  link_own link t = ap (λ gs. all_placed (by_range gs))
      (kept_anyway (λ (f : Recorded). f.link == link) (λ (f : Recorded). has_link topo share f.link) fs
      (λ f h. let same : f.link ≡ link = grind (arith, nat_tests) in ap (has_link topo share) same ∙ t))

  -- ---- one manager

  module _ (areas regions : List (List (ℕ × Area))) (same : HaveSameRegions share areas regions) where
    same_capture : (k : ℕ) → share k ≡ true → capture_with topo (areas_at areas) own k ≡ capture_with topo (areas_at regions) fs k
    same_capture k t = ap (λ x. of_manager (manager_at topo k x) (manager_beats topo own k)) (same k t) ∙ ap (of_manager (manager_at topo k (areas_at regions k))) (beats_own k t)

    manager_part : (k : ℕ) (row : Row) → Finds (capture_with topo (areas_at areas) own k) row
        → Finds (capture_with topo (areas_at regions) fs k) row × (has_link topo share row.link ≡ true)
    manager_part k row h = elim (share k) as (λ b. share k ≡ b → Finds (capture_with topo (areas_at regions) fs k) row × (has_link topo share row.link ≡ true)) [
      | true ↦ λ t. (let there = subst (λ c. Finds c row) (same_capture k t) h in
          (there, ap share (manager_is topo k row.link (row_of_manager topo (areas_at regions) fs k row there)) ∙ t))
      | false ↦ λ e. absurd (no_row (capture_with topo (areas_at areas) own k) row (beats_none k e) h)
    ] refl

    manager_whole : (k : ℕ) (row : Row) → Finds (capture_with topo (areas_at regions) fs k) row → has_link topo share row.link ≡ true → Finds (capture_with topo (areas_at areas) own k) row
    manager_whole k row h linked =
        let t : share k ≡ true = sym (ap share (manager_is topo k row.link (row_of_manager topo (areas_at regions) fs k row h))) ∙ linked in
        subst (λ c. Finds c row) (sym (same_capture k t)) h

  -- ---- one monitor

  abbrev is_own_watch : ℕ × Watch → Bool
  is_own_watch e = option_map_or (has_link topo share) (number_of_name topo.links (link_of e.1)) false

  link_part : (found : Option ℕ) → option_map_or (has_link topo share) found false ≡ true
      → option_map_or (λ link. beats_of link own) found [] ≡ option_map_or (λ link. beats_of link fs) found []
  link_part None t = refl
  link_part (Some link) t = link_own link t

  same_watch : (e : ℕ × Watch) → is_own_watch e ≡ true → watch_capture topo own e ≡ watch_capture topo fs e
  same_watch e t = ap (of_monitor e.0 e.1) (link_part (number_of_name topo.links (link_of e.1)) t)

  -- A beat that is watched is of the link that is.
  beat_linked : (found : Option ℕ) (p : Placed) → Contains (option_map_or (λ link. beats_of link fs) found []) p → found ≡ Some p.link
  beat_linked None p h = absurd (contains_none p h)
  beat_linked (Some link) p h = ap Some (sym (link_of_beat link fs p h))

  pub watch_linked : (e : ℕ × Watch) (row : Row) → Finds (watch_capture topo fs e) row → number_of_name topo.links (link_of e.1) ≡ Some row.link
  watch_linked e row h =
      let stands = stands_in (watch_capture topo fs e) row h in
      beat_linked (number_of_name topo.links (link_of e.1)) stands.0 stands.1 ∙ ap Some (sym (ap (λ (r : Row). r.link) stands.2))

  watch_shared : (e : ℕ × Watch) (row : Row) → Finds (watch_capture topo fs e) row → is_own_watch e ≡ has_link topo share row.link
  watch_shared e row h = ap (λ found. option_map_or (has_link topo share) found false) (watch_linked e row h)

  -- ---- all captures

  module _ (areas regions : List (List (ℕ × Area))) (watches : List (ℕ × Watch)) (same : HaveSameRegions share areas regions) where
    abbrev Part : Row → Type 0
    Part row = FindsIn (captures_with topo own areas (own_watches topo share watches)) row

    abbrev Whole : Row → Type 0
    Whole row = FindsIn (captures_with topo fs regions watches) row

    manager_found : (k : ℕ) (row : Row) → k < length topo.managers → Finds (capture_with topo (areas_at regions) fs k) row → Whole row
    manager_found k row below h = (
      capture_with topo (areas_at regions) fs k,
      Contains-append_left (captures_of topo (areas_at regions) fs) (watch_captures topo fs watches) (capture_with topo (areas_at regions) fs k)
          (capture_there topo (areas_at regions) fs 0 topo.managers k (omega arith) (omega (arith, below))),
      h,
    )

    manager_shared : (k : ℕ) (row : Row) → k < length topo.managers → Finds (capture_with topo (areas_at areas) own k) row → Part row
    manager_shared k row below h = (
      capture_with topo (areas_at areas) own k,
      Contains-append_left (captures_of topo (areas_at areas) own) (watch_captures topo own (own_watches topo share watches)) (capture_with topo (areas_at areas) own k)
          (capture_there topo (areas_at areas) own 0 topo.managers k (omega arith) (omega (arith, below))),
      h,
    )

    watch_found : (e : ℕ × Watch) (row : Row) → Contains watches e → Finds (watch_capture topo fs e) row → Whole row
    watch_found e row at h = (
      watch_capture topo fs e,
      Contains-append_right (captures_of topo (areas_at regions) fs) (watch_captures topo fs watches) (watch_capture topo fs e) (contains_mapped (watch_capture topo fs) watches e at),
      h,
    )

    watch_own : (e : ℕ × Watch) (row : Row) → Contains (own_watches topo share watches) e → Finds (watch_capture topo own e) row → Part row
    watch_own e row at h = (
      watch_capture topo own e,
      Contains-append_right (captures_of topo (areas_at areas) own) (watch_captures topo own (own_watches topo share watches)) (watch_capture topo own e)
          (contains_mapped (watch_capture topo own) (own_watches topo share watches) e at),
      h,
    )

    part_found : (row : Row) → Part row → Whole row × (has_link topo share row.link ≡ true)
    part_found row found = elim (Contains-append_cases (captures_of topo (areas_at areas) own) (watch_captures topo own (own_watches topo share watches)) found.0 found.1) [
      | inl a ↦ (let at = capture_from topo (areas_at areas) own 0 topo.managers found.0 a in
          let known = manager_part areas regions same at.0 row (subst (λ c. Finds c row) (sym at.3) found.2) in
          (manager_found at.0 row (omega (arith, at.2)) known.0, known.1))
      | inr b ↦ (let at = mapped_from (watch_capture topo own) (own_watches topo share watches) found.0 b in
          let kept = kept_from is_own_watch watches at.0 at.1 in
          let there : Finds (watch_capture topo fs at.0) row = subst (λ c. Finds c row) (sym at.2 ∙ same_watch at.0 kept.1) found.2 in
          (watch_found at.0 row kept.0 there, sym (watch_shared at.0 row there) ∙ kept.1))
    ]

    whole_found : (row : Row) → Whole row → has_link topo share row.link ≡ true → Part row
    whole_found row found linked = elim (Contains-append_cases (captures_of topo (areas_at regions) fs) (watch_captures topo fs watches) found.0 found.1) [
      | inl a ↦ (let at = capture_from topo (areas_at regions) fs 0 topo.managers found.0 a in
          manager_shared at.0 row (omega (arith, at.2)) (manager_whole areas regions same at.0 row (subst (λ c. Finds c row) (sym at.3) found.2) linked))
      | inr b ↦ (let at = mapped_from (watch_capture topo fs) watches found.0 b in
          let there : Finds (watch_capture topo fs at.0) row = subst (λ c. Finds c row) (sym at.2) found.2 in
          let kept : is_own_watch at.0 ≡ true = watch_shared at.0 row there ∙ linked in
          watch_own at.0 row (contains_kept is_own_watch watches at.0 at.1 kept) (subst (λ c. Finds c row) (sym (same_watch at.0 kept)) there))
    ]

-- A row that is found is of a link of the topology.
pub row_below : (topo : Topology) (fs : List Recorded) (regions : List (List (ℕ × Area))) (watches : List (ℕ × Watch)) (row : Row) → FindsIn (captures_with topo fs regions watches) row → row.link < length topo.links
row_below topo fs regions watches row found = elim (Contains-append_cases (captures_of topo (areas_at regions) fs) (watch_captures topo fs watches) found.0 found.1) [
  | inl a ↦ (let at = capture_from topo (areas_at regions) fs 0 topo.managers found.0 a in
      let of = row_of_manager topo (areas_at regions) fs at.0 row (subst (λ c. Finds c row) (sym at.3) found.2) in
      let below : row.link < 0 + length (declared_links topo) = clients_below at.0 0 (declared_links topo) row.link of in
      omega (arith, below, length-map topo.links (λ (p : List ℕ × LinkDecl). p.1)))
  | inr b ↦ (let at = mapped_from (watch_capture topo fs) watches found.0 b in
      number_below topo.links (link_of at.0.1) row.link (watch_linked topo (λ k. true) fs at.0 row (subst (λ c. Finds c row) (sym at.2) found.2)))
]

pub parts_are_apart : PartsAreApart
parts_are_apart topo fs regions watches share whole part is other =
    let test : Row → Bool = λ row. has_link topo share row.link in
    strict_one key_order key_total part (own_rows topo share whole) other.report.rises (IsStrictlySortedBy-filter key_order test whole is.rises)
    (λ row. (
      (λ h. let found = part_found topo share fs other.areas regions watches other.same row ((other.report.members row).0 h) in
          contains_kept test whole row ((is.members row).1 found.0) found.1),
      (λ h. let kept = kept_from test whole row h in
          (other.report.members row).1 (whole_found topo share fs other.areas regions watches other.same row ((is.members row).0 kept.0) kept.1)),
    ))
