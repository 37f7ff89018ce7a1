-- The rows of all managers, and their order.
use Rattle.std.proofs.Common.{◌≡◌, inl, inr, ℕ, zero, suc, ◌+◌, ◌<◌, true, false, List, [], ◌∷◌, ◌++◌, length, get_or, map, refl, sym, ap, subst, ◌∙◌, arith}
use Rattle.std.specs.Prelude.{◌↔◌, nat_lt}
use Rattle.std.specs.List.{All, Contains}
use Rattle.std.specs.List.Sorted.{IsStrictlySortedBy}
use Rattle.std.specs.declared.cmp.Ordering.TheVariants.{Equal}
use Rattle.std.proofs.lemmas.Bool.Decides.{nat_tests}
use Rattle.std.proofs.lemmas.List.Elements.{Contains-append_cases, Contains-append_left, Contains-append_right, Contains-get_or}
use Rattle.tl_topology.specs.Regions.{Area}
use Rattle.tl_topology.specs.Topology.{Topology}
use Rattle.tl_capture.specs.Present.{IsPresent}
use Rattle.tl_beats.specs.declared.Placed.{Placed}
use Rattle.tl_beats.specs.declared.Row.{Row}
use Rattle.tl_beats.specs.declared.watch.Watch.{Watch}
use Rattle.tl_definitions.specs.Breaks.{row_of}
use Rattle.tl_definitions.specs.Captures.{manager_beats, captures_from, captures_of}
use Rattle.tl_definitions.specs.Managers.{declared_links, manager_at}
use Rattle.tl_definitions.specs.Positions.{Recorded, clients_of}
use Rattle.tl_definitions.specs.Report.{key_order, row_order, Capture, of_manager, captured}
use Rattle.tl_definitions.specs.Rules.{Manager}
use Rattle.tl_definitions.specs.Known.{Beginning}
use Rattle.tl_definitions.specs.Printed.{printed_rules, printed_after}
use Rattle.tl_definitions.proofs.Lists.{contains_none, contains_here, contains_there, mapped_from}
use Rattle.tl_definitions.proofs.ReportLaws.{rises_by_key, same_place, stands_in}
use Rattle.tl_definitions.proofs.RisingLaws.{row_with}
use Rattle.tl_edits.specs.Inputs.{InputData, attached}
use Rattle.tl_check.specs.Captured.{areas_at, watch_captures}
use Rattle.tl_check.specs.Found.{AreFound}
use Rattle.tl_check.proofs.CaptureLaws.{one_place, linked_in, row_linked as any_linked}
use Rattle.tl_midway.proofs.WalkLaws.{below}
use Rattle.tl_midway.specs.Judged.{AreRowsOf}
use Rattle.tl_midway.specs.Midway.{beginning_of}
use Rattle.tl_midway.specs.Report.{manager_rows, IsPrinted, ArePrinted, StandsIn, IsMidwayReport}
use Rattle.tl_midway.specs.declared.midway.Midway.{Midway}

-- A row that is printed is of one of the beats.
pub printed_from : (m : Manager) (start : Beginning) (before beats : List Placed) (row : Row) → Contains (printed_after m start before beats) row → (p : Placed) × Contains beats p × (row ≡ row_of p row.rule)
printed_from m start before [] row h = absurd (contains_none row h)
printed_from m start before (p ∷ beats) row h =
    elim (Contains-append_cases (map (row_of p) (printed_rules m start before p)) (printed_after m start (p ∷ before) beats) row h) [
      | inl here ↦ (let found = mapped_from (row_of p) (printed_rules m start before p) row here in
          (p, contains_here p beats, sym found.2 ∙ ap (row_of p) (ap (λ (r : Row). r.rule) found.2)))
      | inr there ↦ (let found = printed_from m start (p ∷ before) beats row there in (found.0, contains_there p beats found.0 found.1, found.2))
    ]

-- A manager's beats are one of the captures.
manager_captured : {X : Type 0} (topo : Topology) (regions : ℕ → List Area) (fs : List Recorded) (number : ℕ) (managers : List X) (k : ℕ) → k < length managers
    → Contains (captures_from topo regions fs number managers) (of_manager (manager_at topo (number + k) (regions (number + k))) (manager_beats topo fs (number + k)))
manager_captured topo regions fs number [] k below = absurd (omega arith)
manager_captured topo regions fs number (manager ∷ managers) zero below =
    let same : number ≡ number + 0 = omega arith in
    let own : Capture = of_manager (manager_at topo number (regions number)) (manager_beats topo fs number) in
    subst (λ n. Contains (captures_from topo regions fs number (manager ∷ managers)) (of_manager (manager_at topo n (regions n)) (manager_beats topo fs n))) same
    (contains_here own (captures_from topo regions fs (number + 1) managers))
manager_captured topo regions fs number (manager ∷ managers) (suc k) below =
    let same : number + 1 + k ≡ number + suc k = omega arith in
    let own : Capture = of_manager (manager_at topo number (regions number)) (manager_beats topo fs number) in
    subst (λ n. Contains (captures_from topo regions fs number (manager ∷ managers)) (of_manager (manager_at topo n (regions n)) (manager_beats topo fs n))) same
    (contains_there own (captures_from topo regions fs (number + 1) managers) (of_manager (manager_at topo (number + 1 + k) (regions (number + 1 + k))) (manager_beats topo fs (number + 1 + k)))
    (manager_captured topo regions fs (number + 1) managers k (omega arith)))

-- The row is one of a beat of these captures.
abbrev IsAtBeat : List Capture → Row → Type 0
IsAtBeat captures row = (capture : Capture) × (p : Placed) × Contains captures capture × Contains (captured capture) p × (row ≡ row_with p row.rule row.monitor)

module _ (law : Midway) (now : InputData) (is : IsPresent now.fragments) where
  abbrev topo : Topology
  topo = now.topo

  abbrev fs : List Recorded
  fs = now.fragments

  abbrev regions : ℕ → List Area
  regions = areas_at now.regions

  abbrev of_managers : List Capture
  of_managers = captures_of topo regions fs

  abbrev of_monitors : List Capture
  of_monitors = watch_captures topo fs (attached now.monitors)

  captured_at : (k : ℕ) → k < length topo.managers → Contains of_managers (of_manager (manager_at topo k (regions k)) (manager_beats topo fs k))
  captured_at k below =
      let same : 0 + k ≡ k = omega arith in
      subst (λ n. Contains of_managers (of_manager (manager_at topo n (regions n)) (manager_beats topo fs n))) same (manager_captured topo regions fs 0 topo.managers k below)

  -- The beat of a row that stands.
  at_beat : (row : Row) → StandsIn law now row → IsAtBeat (of_managers ++ of_monitors) row
  at_beat row (inl printed) =
      let m : Manager = manager_at topo printed.0 (regions printed.0) in
      let own : Capture = of_manager m (manager_beats topo fs printed.0) in
      let one = printed_from m (beginning_of law m) [] (manager_beats topo fs printed.0) row printed.2 in (
        own,
        one.0,
        Contains-append_left of_managers of_monitors own (captured_at printed.0 printed.1),
        one.1,
        one.2 ∙ ap (row_with one.0 row.rule) (sym (ap (λ (r : Row). r.monitor) one.2)),
      )
  at_beat row (inr flagged) =
      let one = stands_in flagged.0 row flagged.2 in
      (flagged.0, one.0, Contains-append_right of_managers of_monitors flagged.0 flagged.1, one.1, one.2)

  -- Rows with one key are written at one place.
  one_written : (x y : Row) → StandsIn law now x → StandsIn law now y → key_order x y ≡ Equal → (x.fragment ≡ y.fragment) × (x.line ≡ y.line)
  one_written x y first second tie =
      let one = at_beat x first in
      let two = at_beat y second in
      let p : Placed = one.1 in
      let q : Placed = two.1 in
      let tied : key_order (row_with p x.rule x.monitor) (row_with q y.rule y.monitor) ≡ Equal =
      sym (ap (λ z. key_order z (row_with q y.rule y.monitor)) one.4) ∙ sym (ap (key_order x) two.4) ∙ tie in
      let found = one_place topo fs is now.regions (attached now.monitors) one.0 two.0 p q one.2 two.2 one.3 two.3 (same_place p q x.rule y.rule x.monitor y.monitor tied) in (
        ap (λ (z : Row). z.fragment) one.4 ∙ found.0 ∙ sym (ap (λ (z : Row). z.fragment) two.4),
        ap (λ (z : Row). z.line) one.4 ∙ found.1 ∙ sym (ap (λ (z : Row). z.line) two.4),
      )

  pub sorted_report : (found flagged both rows : List Row) → ArePrinted law topo regions fs (length topo.managers) found → AreFound of_monitors flagged → both ≡ found ++ flagged
      → IsStrictlySortedBy row_order rows → ((row : Row) → Contains rows row ↔ Contains both row) → IsMidwayReport law now rows
  sorted_report found flagged both rows printed are put rises same =
      let members : (row : Row) → Contains rows row ↔ StandsIn law now row = λ row. (
        (λ h. elim (Contains-append_cases found flagged row (subst (λ rs. Contains rs row) put ((same row).0 h))) [
          | inl a ↦ inl ((printed row).0 a)
          | inr b ↦ inr ((are row).0 b)
        ]),
        (λ stands. (same row).1 (subst (λ rs. Contains rs row) (sym put) (elim stands [
          | inl a ↦ Contains-append_left found flagged row ((printed row).1 a)
          | inr b ↦ Contains-append_right found flagged row ((are row).1 b)
        ]))),
      ) in
      record { rises = rises_by_key rows (λ x y h g. one_written x y ((members x).0 h) ((members y).0 g)) rises; members = members }

  -- A row that stands is of a link of the topology.
  row_linked : (row : Row) → StandsIn law now row → row.link < length topo.links
  row_linked row (inl printed) =
      let m : Manager = manager_at topo printed.0 (regions printed.0) in
      let one = printed_from m (beginning_of law m) [] (manager_beats topo fs printed.0) row printed.2 in
      let linked = linked_in topo fs is (clients_of printed.0 (declared_links topo)) one.0 one.1 in
      subst (λ (n : ℕ). n < length topo.links) (sym (ap (λ (r : Row). r.link) one.2)) (below topo printed.0 one.0.link linked)
  row_linked row (inr flagged) = any_linked topo fs is now.regions (attached now.monitors) row (flagged.0, Contains-append_right of_managers of_monitors flagged.0 flagged.1, flagged.2)

  pub report_linked : (rows : List Row) → IsMidwayReport law now rows → All (λ (row : Row). row.link < length topo.links) rows
  report_linked rows report k d less = row_linked (get_or rows k d) ((report.members (get_or rows k d)).0 (Contains-get_or rows k d less))

-- What was read of what edits leave is what they leave.
pub report_of : (law : Midway) (now : InputData) (topo : Topology) (fs : List Recorded) (given : List (List (ℕ × Area))) (watches : List (ℕ × Watch))
    → topo ≡ now.topo → fs ≡ now.fragments → given ≡ now.regions → watches ≡ attached now.monitors → IsPresent now.fragments → (found flagged both rows : List Row)
    → ArePrinted law topo (areas_at given) fs (length topo.managers) found → AreFound (watch_captures topo fs watches) flagged → both ≡ found ++ flagged
    → IsStrictlySortedBy row_order rows → ((row : Row) → Contains rows row ↔ Contains both row) → IsMidwayReport law now rows
report_of law now topo fs given watches one two three four is found flagged both rows printed are put rises same =
    sorted_report law now is found flagged both rows
    (subst (λ (t : Topology). ArePrinted law t (areas_at now.regions) now.fragments (length t.managers) found) one
    (subst (λ g. ArePrinted law topo (areas_at g) now.fragments (length topo.managers) found) three (subst (λ f. ArePrinted law topo (areas_at given) f (length topo.managers) found) two printed)))
    (subst (λ t. AreFound (watch_captures t now.fragments (attached now.monitors)) flagged) one
    (subst (λ f. AreFound (watch_captures topo f (attached now.monitors)) flagged) two (subst (λ w. AreFound (watch_captures topo fs w) flagged) four are)))
    put rises same

module _ (law : Midway) (topo : Topology) (regions : ℕ → List Area) (fs : List Recorded) where
  -- One manager more.
  pub manager_more : (k : ℕ) (rows own more : List Row) → ArePrinted law topo regions fs k rows → AreRowsOf law topo (regions k) fs k own → more ≡ rows ++ own
      → ArePrinted law topo regions fs (k + 1) more
  manager_more k rows own more are is put row = (to, from)
    where
      to : Contains more row → IsPrinted law topo regions fs (k + 1) row
      to h = elim (Contains-append_cases rows own row (subst (λ rs. Contains rs row) put h)) [
        | inl old ↦ (let found = (are row).0 old in let less = found.1 in (found.0, omega (arith, less), found.2))
        | inr new ↦ (k, omega arith, (is row).0 new)
      ]

      from : IsPrinted law topo regions fs (k + 1) row → Contains more row
      from printed =
          let j : ℕ = printed.0 in
          let less = printed.1 in
          subst (λ rs. Contains rs row) (sym put)
          (elim (nat_lt j k) as (λ b. nat_lt j k ≡ b → Contains (rows ++ own) row) [
            | true ↦ λ e. (let earlier : j < k = grind (arith, nat_tests) in Contains-append_left rows own row ((are row).1 (j, earlier, printed.2)))
            | false ↦ λ e. (let last : j ≡ k = grind (arith, nat_tests) in
                Contains-append_right rows own row ((is row).1 (subst (λ n. Contains (manager_rows law topo regions fs n) row) last printed.2)))
          ] refl)

  pub no_managers : (rows : List Row) → rows ≡ [] → ArePrinted law topo regions fs 0 rows
  no_managers rows none row = (
    (λ h. absurd (contains_none row (subst (λ rs. Contains rs row) none h))),
    (λ h. let less = h.1 in absurd (omega (arith, less))),
  )
