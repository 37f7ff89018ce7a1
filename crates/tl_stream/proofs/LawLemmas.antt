-- What follows for what streams tell.
use Rattle.std.proofs.Common.{◌≡◌, ℕ, ◌+◌, ◌<◌, ◌≤◌, inl, inr, Bool, true, false, not, ◌&&◌, ◌||◌, List, [], ◌∷◌, ◌++◌, length, Option, Some, None, refl, sym, ap, subst, ◌∙◌, arith}
use Rattle.std.specs.Prelude.{◌==◌, nat_le}
use Rattle.std.specs.List.{Contains}
use Rattle.std.proofs.lemmas.Bool.Decides.{nat_tests}
use Rattle.std.proofs.lemmas.List.{length-map}
use Rattle.std.proofs.lemmas.List.Elements.{Contains-append_left, Contains-append_right, Contains-append_cases}
use Rattle.tl_topology.specs.Regions.{Area}
use Rattle.tl_topology.specs.Topology.{Topology}
use Rattle.tl_topology.specs.declared.LinkDecl.{LinkDecl}
use Rattle.tl_beats.specs.declared.Placed.{Placed}
use Rattle.tl_beats.specs.declared.Row.{Row}
use Rattle.tl_definitions.specs.Captures.{captures_from, manager_beats}
use Rattle.tl_definitions.specs.Managers.{declared_links, manager_at}
use Rattle.tl_definitions.specs.Positions.{Recorded, clients_of}
use Rattle.tl_definitions.specs.Report.{all_rows}
use Rattle.tl_definitions.proofs.Lists.{contains_none}
use Rattle.tl_definitions.proofs.ReportLaws.{sorted_rows_are_the_report}
use Rattle.tl_client_rules.proofs.ClientsLaws.{clients_below}
use Rattle.tl_capture.specs.Present.{IsPresent}
use Rattle.tl_capture.proofs.EntryLemmas.{all_kept}
use Rattle.tl_check.specs.Captured.{areas_at, captures_with}
use Rattle.tl_check.proofs.CaptureLaws.{one_place, linked_in}
use Rattle.tl_midway.specs.declared.midway.Midway.{Midway}
use Rattle.tl_stream.specs.Fronts.{is_covered, is_complete}
use Rattle.tl_stream.specs.Laws.{TellingIsWhole, StreamsTellTheReport, StreamsTellWhatIsPrinted}
use Rattle.tl_stream.specs.Pasts.{rows_in}
use Rattle.tl_stream.specs.Told.{complete_beats, open_beats, whole}
use Rattle.tl_stream.proofs.BeatLemmas.{beats_are_strict, parted, rows_in_both, row_from_beat}
use Rattle.tl_stream.proofs.FrontLemmas.{any_by, any_from, every, all_by_each}

-- A cycle before a complete one is complete.
covered_below : (fs : List Recorded) (link lower cycle : ℕ) → lower ≤ cycle → is_covered fs cycle link ≡ true → is_covered fs lower link ≡ true
covered_below fs link lower cycle order h =
    let known = any_from (λ (f : Recorded). f.link == link && nat_le cycle f.last) fs h in
    let test : (known.0.link == link && nat_le cycle known.0.last) ≡ true = known.2 in
    let also : (known.0.link == link && nat_le lower known.0.last) ≡ true = grind (arith, nat_tests) in
    any_by (λ (f : Recorded). f.link == link && nat_le lower f.last) fs known.0 known.1 also

complete_below : (links : List ℕ) (fs : List Recorded) (lower cycle : ℕ) → lower ≤ cycle → is_complete links fs cycle ≡ true → is_complete links fs lower ≡ true
complete_below links fs lower cycle order h = all_by_each (is_covered fs lower) links (λ link c. covered_below fs link lower cycle order (every (is_covered fs cycle) links h link c))

pub telling_is_whole : TellingIsWhole
telling_is_whole midway topo regions fs manager is =
    sym (rows_in_both midway (manager_at topo manager (regions manager)) (complete_beats topo regions fs manager) (open_beats topo regions fs manager))
    ∙ ap (rows_in midway (manager_at topo manager (regions manager))) (sym (parted done (λ p. not (done p)) (λ p. true) beats (beats_are_strict links fs is) (λ p h. either (done p)) apart) ∙ all_kept (λ p. true) beats (λ p h. refl))
  where
    links : List ℕ
    links = clients_of manager (declared_links topo)

    beats : List Placed
    beats = manager_beats topo fs manager

    done : Placed → Bool
    done p = is_complete links fs p.beat.cycle

    either : (t : Bool) → true ≡ (t || not t)
    either true = refl
    either false = refl

    not_both : (t : Bool) → t ≡ true → not t ≡ true → ⊥
    not_both true h g = let wrong : false ≡ true = g in cc
    not_both false h g = let wrong : false ≡ true = h in cc

    apart : (p q : Placed) → Contains beats p → Contains beats q → done p ≡ true → not (done q) ≡ true → p.beat.cycle < q.beat.cycle
    apart p q h g here there = elim (nat_le q.beat.cycle p.beat.cycle) as (λ t. nat_le q.beat.cycle p.beat.cycle ≡ t → p.beat.cycle < q.beat.cycle) [
      | true ↦ λ e. (let order : q.beat.cycle ≤ p.beat.cycle = grind (arith, nat_tests) in absurd (not_both (done q) (complete_below links fs q.beat.cycle p.beat.cycle order here) there))
      | false ↦ λ e. grind (arith, nat_tests)
    ] refl

-- ---- all managers

-- A row of the captures of managers is one of a manager,
row_from : {X : Type 0} (topo : Topology) (regions : ℕ → List Area) (fs : List Recorded) (number : ℕ) (managers : List X) (row : Row) → Contains (all_rows (captures_from topo regions fs number managers ++ [])) row
    → (manager : ℕ) × (manager < number + length managers) × Contains (whole topo regions fs manager None) row
row_from topo regions fs number [] row h = absurd (contains_none row h)
row_from topo regions fs number (m ∷ managers) row h =
    elim (Contains-append_cases (whole topo regions fs number None) (all_rows (captures_from topo regions fs (number + 1) managers ++ [])) row h) [
      | inl here ↦ (let less : number < number + length (m ∷ managers) = omega arith in (number, less, here))
      | inr there ↦ (let known = row_from topo regions fs (number + 1) managers row there in
          let below : known.0 < (number + 1) + length managers = known.1 in let less : known.0 < number + length (m ∷ managers) = omega arith in (known.0, less, known.2))
    ]

-- and the other way round.
row_has : {X : Type 0} (topo : Topology) (regions : ℕ → List Area) (fs : List Recorded) (number : ℕ) (managers : List X) (row : Row) (manager : ℕ) → number ≤ manager → manager < number + length managers
    → Contains (whole topo regions fs manager None) row → Contains (all_rows (captures_from topo regions fs number managers ++ [])) row
row_has topo regions fs number [] row manager from below h = absurd (never manager number from (omega arith))
  where
    never : (k n : ℕ) → n ≤ k → k < n → ⊥
    never k n le lt = omega arith
row_has topo regions fs number (m ∷ managers) row manager from below h = elim (manager == number) as (λ t. (manager == number) ≡ t → Contains (all_rows (captures_from topo regions fs number (m ∷ managers) ++ [])) row) [
  | true ↦ λ e. (let same : manager ≡ number = grind (arith, nat_tests) in
      Contains-append_left (whole topo regions fs number None) (all_rows (captures_from topo regions fs (number + 1) managers ++ [])) row (subst (λ n. Contains (whole topo regions fs n None) row) same h))
  | false ↦ λ e. (let above : number + 1 ≤ manager = grind (arith, nat_tests) in
      Contains-append_right (whole topo regions fs number None) (all_rows (captures_from topo regions fs (number + 1) managers ++ [])) row
      (row_has topo regions fs (number + 1) managers row manager above (omega arith) h))
] refl

pub streams_tell_the_report : StreamsTellTheReport
streams_tell_the_report topo regions fs rows is rises members =
    sorted_rows_are_the_report (captures_with topo fs regions []) rows (one_place topo fs is regions []) rises
    (λ row. (
      (λ h. let told = (members row).0 h in
          row_has topo (areas_at regions) fs 0 topo.managers row told.0 (omega arith) (omega (arith, told.1)) (subst (λ rs. Contains rs row) (telling_is_whole None topo (areas_at regions) fs told.0 is) told.2)),
      (λ h. let found = row_from topo (areas_at regions) fs 0 topo.managers row h in
          (members row).1 (found.0, omega (arith, found.1), subst (λ rs. Contains rs row) (sym (telling_is_whole None topo (areas_at regions) fs found.0 is)) found.2)),
    ))

pub streams_tell_what_is_printed : StreamsTellWhatIsPrinted
streams_tell_what_is_printed law topo regions fs row is = (
  (λ told. (told.0, told.1, subst (λ rs. Contains rs row) (telling_is_whole (Some law) topo regions fs told.0 is) told.2)),
  (λ found. (found.0, found.1, subst (λ rs. Contains rs row) (sym (telling_is_whole (Some law) topo regions fs found.0 is)) found.2)),
)

-- ---- links

-- A row of a manager is of a link of the topology.
pub whole_linked : (midway : Option Midway) (topo : Topology) (regions : ℕ → List Area) (fs : List Recorded) (manager : ℕ) (row : Row) → IsPresent fs → Contains (whole topo regions fs manager midway) row
    → row.link < length topo.links
whole_linked midway topo regions fs manager row is h =
    let found = row_from_beat midway (manager_at topo manager (regions manager)) (manager_beats topo fs manager) row h in
    let p : Placed = found.0 in
    let below : p.link < 0 + length (declared_links topo) = clients_below manager 0 (declared_links topo) p.link (linked_in topo fs is (clients_of manager (declared_links topo)) p found.1) in
    let many = length-map topo.links (λ (q : List ℕ × LinkDecl). q.1) in
    let less : p.link < length topo.links = omega (arith, below, many) in
    subst (λ n. n < length topo.links) (sym found.2) less
