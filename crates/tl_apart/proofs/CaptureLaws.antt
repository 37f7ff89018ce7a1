-- The captures of managers without regions, and their links.
use Rattle.std.proofs.Common.{◌≡◌, ℕ, ◌+◌, ◌<◌, ◌≤◌, inl, inr, ◌==◌, true, false, List, [], ◌∷◌, ◌++◌, length, get_or, sym, ap, subst, ◌∙◌, arith, refl}
use Rattle.std.specs.Prelude.{map}
use Rattle.std.specs.List.{Contains}
use Rattle.std.specs.Option.{option_map_or}
use Rattle.std.proofs.lemmas.Bool.Decides.{nat_tests}
use Rattle.std.proofs.lemmas.List.Elements.{Contains-append_cases}
use Rattle.std.proofs.lemmas.Option.{slice_get-get_or}
use Rattle.tl_topology.specs.Regions.{Area}
use Rattle.tl_topology.specs.Topology.{Topology}
use Rattle.tl_topology.specs.declared.LinkDecl.{LinkDecl}
use Rattle.tl_beats.specs.declared.Placed.{Placed}
use Rattle.tl_beats.specs.declared.Row.{Row}
use Rattle.tl_definitions.specs.Breaks.{row_of}
use Rattle.tl_definitions.specs.Captures.{captures_from}
use Rattle.tl_definitions.specs.LinkPasses.{LinkSnapshot, link_rules, link_next, link_judging}
use Rattle.tl_definitions.specs.Managers.{declared_links}
use Rattle.tl_definitions.specs.Passes.{rows_judged}
use Rattle.tl_definitions.specs.Positions.{Recorded, clients_of, links_of, no_link}
use Rattle.tl_definitions.specs.Report.{Finds, FindsIn}
use Rattle.tl_definitions.specs.Rules.{Manager}
use Rattle.tl_definitions.proofs.Lists.{contains_none, contains_here, contains_there, contains_cases, mapped_from}
use Rattle.tl_client_rules.proofs.ClientsLaws.{clients_below}
use Rattle.tl_client_rules.proofs.DeclaredLaws.{client_is_declared}
use Rattle.tl_check.specs.Captured.{areas_at}
use Rattle.tl_check.proofs.CaptureLaws.{capture_with}

abbrev pub none : ℕ → List Area
none = areas_at []

pub capture_from : {X : Type 0} (topo : Topology) (fs : List Recorded) (number : ℕ) (managers : List X) (row : Row) → FindsIn (captures_from topo none fs number managers ++ []) row
    → (k : ℕ) × (number ≤ k) × (k < number + length managers) × Finds (capture_with topo none fs k) row
capture_from topo fs number [] row found = absurd (contains_none found.0 found.1)
capture_from topo fs number (m ∷ managers) row found = elim (contains_cases (capture_with topo none fs number) (captures_from topo none fs (number + 1) managers ++ []) found.0 found.1) [
  | inl is ↦ (number, omega arith, omega arith, subst (λ c. Finds c row) (sym is) found.2)
  | inr there ↦ (let known = capture_from topo fs (number + 1) managers row (found.0, there, found.2) in
      let from : number + 1 ≤ known.0 = known.1 in
      let below : known.0 < (number + 1) + length managers = known.2 in
      (known.0, omega arith, omega arith, known.3))
]

pub capture_there : {X : Type 0} (topo : Topology) (fs : List Recorded) (number : ℕ) (managers : List X) (row : Row) (k : ℕ) → number ≤ k → k < number + length managers
    → Finds (capture_with topo none fs k) row → FindsIn (captures_from topo none fs number managers ++ []) row
capture_there topo fs number [] row k from below h = absurd (let lt : k < number + 0 = below in omega arith)
capture_there topo fs number (m ∷ managers) row k from below h = elim (k == number) as (λ t. (k == number) ≡ t → FindsIn (captures_from topo none fs number (m ∷ managers) ++ []) row) [
  | true ↦ λ e. (let same : k ≡ number = grind (arith, nat_tests) in (
    capture_with topo none fs number,
    contains_here (capture_with topo none fs number) (captures_from topo none fs (number + 1) managers ++ []),
    subst (λ n. Finds (capture_with topo none fs n) row) same h,
  ))
  | false ↦ λ e. (let above : number + 1 ≤ k = grind (arith, nat_tests) in
      let known = capture_there topo fs (number + 1) managers row k above (let less : k < number + length (m ∷ managers) = below in omega arith) h in
      (known.0, contains_there (capture_with topo none fs number) (captures_from topo none fs (number + 1) managers ++ []) known.0 known.1, known.2))
] refl

-- A link of a manager's is of that manager.
pub manager_is : (topo : Topology) (k link : ℕ) → Contains (clients_of k (declared_links topo)) link → (links_of (declared_links topo) link).manager ≡ k
manager_is topo k link h =
    let decls : List LinkDecl = declared_links topo in
    let found = client_is_declared k link decls h in
    let below : link < 0 + length decls = clients_below k 0 decls link h in
    let within : link < length decls = omega arith in
    let one : get_or decls link no_link ≡ found.0 = ap (λ o. option_map_or (λ (z : LinkDecl). z) o no_link) (sym (slice_get-get_or decls link no_link within) ∙ found.1) in
    ap (λ (d : LinkDecl). d.manager) one ∙ found.2

-- A row of a link's judge is of a beat.
pub row_from : (m : Manager) (s : LinkSnapshot) (beats : List Placed) (row : Row) → Contains (rows_judged (link_judging m) s beats) row
    → (q : Placed) × Contains beats q × (row.link ≡ q.link)
row_from m s [] row h = absurd (contains_none row h)
row_from m s (p ∷ beats) row h = elim (Contains-append_cases (map (row_of p) (link_rules m s p)) (rows_judged (link_judging m) (link_next m s p) beats) row h) [
  | inl a ↦ (let found = mapped_from (row_of p) (link_rules m s p) row a in (p, contains_here p beats, ap (λ (r : Row). r.link) (sym found.2)))
  | inr b ↦ (let known = row_from m (link_next m s p) beats row b in (known.0, contains_there p beats known.0 known.1, known.2))
]
