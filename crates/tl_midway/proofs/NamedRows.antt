-- The rows of links without caches, one link after the other, are those of their manager.
use Rattle.std.proofs.Common.{◌≡◌, ℕ, ◌+◌, ◌==◌, inl, inr, List, [], ◌∷◌, ◌++◌, get_or, take, Some, sym, ap, subst, ◌∙◌, append_assoc, append-nil}
use Rattle.std.specs.Prelude.{slice_get}
use Rattle.std.specs.List.{All, Contains}
use Rattle.std.proofs.lemmas.List.Elements.{All-contains, Contains-append_cases, Contains-append_left, Contains-append_right}
use Rattle.tl_topology.specs.Regions.{Area}
use Rattle.tl_topology.specs.Topology.{Topology}
use Rattle.tl_beats.specs.declared.Placed.{Placed}
use Rattle.tl_beats.specs.declared.Row.{Row}
use Rattle.tl_definitions.specs.Captures.{manager_beats}
use Rattle.tl_definitions.specs.Known.{Beginning}
use Rattle.tl_definitions.specs.LinkPasses.{on_link}
use Rattle.tl_definitions.specs.Managers.{declared_links, manager_at}
use Rattle.tl_definitions.specs.Positions.{Recorded, clients_of}
use Rattle.tl_definitions.specs.Printed.{printed_after}
use Rattle.tl_definitions.specs.Rules.{Manager}
use Rattle.tl_definitions.proofs.LinkLaws.{itself}
use Rattle.tl_definitions.proofs.Lists.{contains_none, contains_here, contains_there, contains_cases, contains_kept, kept_from}
use Rattle.tl_capture.specs.Present.{IsPresent}
use Rattle.tl_check.specs.Managers as managers
use Rattle.tl_check.proofs.CaptureLaws.{linked_in}
use Rattle.tl_check.proofs.ListLaws.{take_more}
use Rattle.tl_midway.specs.Judged.{AreRowsOf}
use Rattle.tl_midway.specs.Midway.{beginning_of}
use Rattle.tl_midway.specs.declared.midway.Midway.{Midway}
use Rattle.tl_midway.proofs.ApartLaws.{rows_own}
use Rattle.tl_midway.proofs.PlainMessages.{IsPlain}
use Rattle.tl_midway.proofs.MidwayReportLaws.{printed_from}

pub of_one : (link : ℕ) (beats : List Placed) → All (λ (p : Placed). Contains (link ∷ []) p.link) beats → All (λ (p : Placed). p.link ≡ link) beats
of_one link beats all k d less = elim (contains_cases link [] (get_or beats k d).link (all k d less)) [
  | inl is ↦ sym is
  | inr none ↦ absurd (contains_none (get_or beats k d).link none)
]

-- Of each of these links what is printed of its own beats.
abbrev pub printed_each : Manager → Beginning → List ℕ → List Placed → List Row
printed_each m start [] beats = []
printed_each m start (link ∷ links) beats = printed_after m start [] (on_link link beats) ++ printed_each m start links beats

each_both : (m : Manager) (start : Beginning) (links : List ℕ) (link : ℕ) (beats : List Placed)
    → printed_each m start (links ++ link ∷ []) beats ≡ printed_each m start links beats ++ printed_after m start [] (on_link link beats)
each_both m start [] link beats = append-nil (printed_after m start [] (on_link link beats))
each_both m start (l ∷ links) link beats =
    ap (λ rows. printed_after m start [] (on_link l beats) ++ rows) (each_both m start links link beats)
    ∙ sym (append_assoc (printed_after m start [] (on_link l beats)) (printed_each m start links beats) (printed_after m start [] (on_link link beats)))

pub each_more : (m : Manager) (start : Beginning) (links : List ℕ) (k link : ℕ) (beats : List Placed) → slice_get links k ≡ Some link
    → printed_each m start (take (k + 1) links) beats ≡ printed_each m start (take k links) beats ++ printed_after m start [] (on_link link beats)
each_more m start links k link beats at = ap (λ ls. printed_each m start ls beats) (take_more links k link at) ∙ each_both m start (take k links) link beats

module _ (m : Manager) (start : Beginning) (beats : List Placed) where
  own_row : (link : ℕ) → IsPlain (m.links link) → (row : Row) → Contains (printed_after m start [] (on_link link beats)) row → Contains (printed_after m start [] beats) row
  own_row link plain row h = (kept_from (λ (r : Row). r.link == link) (printed_after m start [] beats) row (subst (λ rows. Contains rows row) (sym (rows_own m start [] beats link plain)) h)).0

  there : (links : List ℕ) → ((link : ℕ) → Contains links link → IsPlain (m.links link)) → (row : Row) → Contains (printed_each m start links beats) row → Contains (printed_after m start [] beats) row
  there [] plain row h = absurd (contains_none row h)
  there (link ∷ links) plain row h = elim (Contains-append_cases (printed_after m start [] (on_link link beats)) (printed_each m start links beats) row h) [
    | inl here ↦ own_row link (plain link (contains_here link links)) row here
    | inr later ↦ there links (λ l g. plain l (contains_there link links l g)) row later
  ]

  one_of : (links : List ℕ) (link : ℕ) → Contains links link → (row : Row) → Contains (printed_after m start [] (on_link link beats)) row → Contains (printed_each m start links beats) row
  one_of [] link has row h = absurd (contains_none link has)
  one_of (l ∷ links) link has row h = elim (contains_cases l links link has) [
    | inl is ↦ Contains-append_left (printed_after m start [] (on_link l beats)) (printed_each m start links beats) row (subst (λ n. Contains (printed_after m start [] (on_link n beats)) row) (sym is) h)
    | inr later ↦ Contains-append_right (printed_after m start [] (on_link l beats)) (printed_each m start links beats) row (one_of links link later row h)
  ]

  back : (links : List ℕ) → ((p : Placed) → Contains beats p → Contains links p.link × IsPlain (m.links p.link)) → (row : Row) → Contains (printed_after m start [] beats) row → Contains (printed_each m start links beats) row
  back links all row h =
      let from = printed_from m start [] beats row h in
      let here : from.0.link ≡ row.link = sym (ap (λ (r : Row). r.link) from.2) in
      let has : Contains links row.link = subst (Contains links) here (all from.0 from.1).0 in
      let plain : IsPlain (m.links row.link) = subst (λ n. IsPlain (m.links n)) here (all from.0 from.1).1 in
      one_of links row.link has row (subst (λ rows. Contains rows row) (rows_own m start [] beats row.link plain)
      (contains_kept (λ (r : Row). r.link == row.link) (printed_after m start [] beats) row h (itself row.link)))

pub rows_are : (topo : Topology) (areas : List Area) (fs : List Recorded) (manager : ℕ) (law : Midway) (rows : List Row) → IsPresent fs → All (managers.IsPlain topo) (clients_of manager (declared_links topo))
    → rows ≡ printed_each (manager_at topo manager areas) (beginning_of law (manager_at topo manager areas)) (clients_of manager (declared_links topo)) (manager_beats topo fs manager)
    → AreRowsOf law topo areas fs manager rows
rows_are topo areas fs manager law rows is plain are row =
    let m : Manager = manager_at topo manager areas in
    let start : Beginning = beginning_of law m in
    let links : List ℕ = clients_of manager (declared_links topo) in
    let beats : List Placed = manager_beats topo fs manager in
    let each : (link : ℕ) → Contains links link → IsPlain (m.links link) = λ link h. All-contains (managers.IsPlain topo) links link plain h in (
      (λ h. there m start beats links each row (subst (λ rs. Contains rs row) are h)),
      (λ h. subst (λ rs. Contains rs row) (sym are) (back m start beats links (λ p g. let linked = linked_in topo fs is links p g in (linked, each p.link linked)) row h)),
    )
