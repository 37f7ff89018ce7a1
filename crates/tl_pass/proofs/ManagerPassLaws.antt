-- What one fragment more tells, and what all of them tell.
use Rattle.std.proofs.Common.{◌≡◌, ℕ, zero, suc, ◌<◌, inl, inr, true, false, List, [], ◌++◌, length, get_or, Option, Some, None, refl, sym, subst, ◌∙◌, arith}
use Rattle.std.specs.Prelude.{◌==◌, ◌↔◌}
use Rattle.std.specs.List.{Contains}
use Rattle.std.specs.List.Sorted.{IsStrictlySortedBy}
use Rattle.std.proofs.lemmas.Bool.Decides.{nat_tests}
use Rattle.std.proofs.lemmas.List.Elements.{Contains-append_left, Contains-append_right, Contains-append_cases, Contains-get_or}
use Rattle.tl_topology.specs.Regions.{Area}
use Rattle.tl_topology.specs.Topology.{Topology}
use Rattle.tl_beats.specs.Fragments.{Frag}
use Rattle.tl_beats.specs.declared.Row.{Row}
use Rattle.tl_definitions.specs.Managers.{declared_links}
use Rattle.tl_definitions.specs.Positions.{Recorded}
use Rattle.tl_definitions.specs.Report.{IsReport, row_order}
use Rattle.tl_definitions.proofs.Lists.{contains_none}
use Rattle.tl_capture.specs.Present.{recorded, put_in, IsPresent}
use Rattle.tl_check.specs.Captured.{areas_at, captures_with}
use Rattle.tl_check.proofs.CaptureLaws.{row_linked}
use Rattle.tl_midway.specs.declared.midway.Midway.{Midway}
use Rattle.tl_stream.specs.Laws.{IsToldBy}
use Rattle.tl_stream.specs.Streams.{StreamData, Accepts, IsOn, areas_in, told_by}
use Rattle.tl_stream.specs.Told.{told, untold, untold_of}
use Rattle.tl_stream.proofs.LawLemmas.{streams_tell_the_report, streams_tell_what_is_printed}
use Rattle.tl_stream.proofs.StreamLemmas.{one_manager}
use Rattle.tl_pass.specs.ManagerPass.{IsToldBySome, HasTold}
use Rattle.tl_pass.specs.Reports.{AreReportOf}
use Rattle.tl_pass.proofs.LinkPassLaws.{sorted_report}

-- ---- one fragment more

module _ (fs : List Recorded) (old : StreamData) (f : Frag) (new : StreamData) (more rows : List Row) (had : HasTold fs old rows) (is : Accepts fs old f new more)
    (manager : ℕ) (below : manager < length old.topo.managers) (on : IsOn old.topo is.link manager) where
  abbrev pub come : List Recorded
  come = put_in (recorded is.link f) fs

  not_on : (m : ℕ) → (m == manager) ≡ false → IsOn old.topo is.link m → ⊥
  not_on m other here = let same : m ≡ manager = one_manager (declared_links old.topo) m manager is.link here on in
      let wrong : (m == manager) ≡ true = grind (arith, nat_tests) in cc

  told_now : (m : ℕ) (row : Row) → Contains (told_by old come m) row → Contains (told_by new come m) row
  told_now m row h =
      subst (λ (t : Topology). Contains (told t (areas_in new) come m new.midway) row) (sym is.topo)
      (subst (λ rs. Contains (told old.topo (areas_at rs) come m new.midway) row) (sym is.regions) (subst (λ w. Contains (told old.topo (areas_in old) come m w) row) (sym is.midway) h))

  told_then : (m : ℕ) (row : Row) → Contains (told_by new come m) row → Contains (told_by old come m) row
  told_then m row h =
      subst (λ w. Contains (told old.topo (areas_in old) come m w) row) is.midway
      (subst (λ rs. Contains (told old.topo (areas_at rs) come m new.midway) row) is.regions (subst (λ (t : Topology). Contains (told t (areas_in new) come m new.midway) row) is.topo h))

  below_now : (m : ℕ) → m < length old.topo.managers → m < length new.topo.managers
  below_now m h = subst (λ (t : Topology). m < length t.managers) (sym is.topo) h

  below_then : (m : ℕ) → m < length new.topo.managers → m < length old.topo.managers
  below_then m h = subst (λ (t : Topology). m < length t.managers) is.topo h

  stays_told : (row : Row) → IsToldBySome old fs row → IsToldBySome new come row
  stays_told row known = (
    known.0,
    below_now known.0 known.1,
    told_now known.0 row
        (elim (known.0 == manager) as (λ t. (known.0 == manager) ≡ t → Contains (told_by old come known.0) row) [
          | true ↦ λ e. (let same : known.0 ≡ manager = grind (arith, nat_tests) in
              subst (λ rs. Contains rs row) (sym (is.own known.0 (subst (IsOn old.topo is.link) (sym same) on))) (Contains-append_left (told_by old fs known.0) more row known.2))
          | false ↦ λ e. subst (λ rs. Contains rs row) (sym (is.others known.0 (not_on known.0 e))) known.2
        ] refl),
  )

  newly_told : (row : Row) → Contains more row → IsToldBySome new come row
  newly_told row h = (manager, below_now manager below, told_now manager row (subst (λ rs. Contains rs row) (sym (is.own manager on)) (Contains-append_right (told_by old fs manager) more row h)))

  told_before : (m : ℕ) (row : Row) → m < length old.topo.managers → Contains (told_by old come m) row → Contains (rows ++ more) row
  told_before m row lt h = elim (m == manager) as (λ t. (m == manager) ≡ t → Contains (rows ++ more) row) [
    | true ↦ λ e. (let same : m ≡ manager = grind (arith, nat_tests) in
        elim (Contains-append_cases (told_by old fs m) more row (subst (λ rs. Contains rs row) (is.own m (subst (IsOn old.topo is.link) (sym same) on)) h)) [
          | inl before ↦ Contains-append_left rows more row ((had.members row).1 (m, lt, before))
          | inr now ↦ Contains-append_right rows more row now
        ])
    | false ↦ λ e. Contains-append_left rows more row ((had.members row).1 (m, lt, subst (λ rs. Contains rs row) (is.others m (not_on m e)) h))
  ] refl

  pub told_more : HasTold come new (rows ++ more)
  told_more = record {
    accepted = is.accepted;
    bare = is.regions ∙ had.bare;
    members = λ row. (
      (λ h. elim (Contains-append_cases rows more row h) [ inl before ↦ stays_told row ((had.members row).0 before) | inr now ↦ newly_told row now ]),
      (λ known. told_before known.0 row (below_then known.0 known.1) (told_then known.0 row known.2)),
    );
  }

-- ---- all of them

untold_from : (midway : Option Midway) (topo : Topology) (regions : ℕ → List Area) (fs : List Recorded) (count : ℕ) (row : Row) → Contains (untold_of midway topo regions fs count) row
    → (manager : ℕ) × (manager < count) × Contains (untold topo regions fs manager midway) row
untold_from midway topo regions fs zero row h = absurd (contains_none row h)
untold_from midway topo regions fs (suc count) row h = elim (Contains-append_cases (untold_of midway topo regions fs count) (untold topo regions fs count midway) row h) [
  | inl before ↦ (let known = untold_from midway topo regions fs count row before in let less : known.0 < suc count = omega (arith, known.1) in (known.0, less, known.2))
  | inr own ↦ (let less : count < suc count = omega arith in (count, less, own))
]

untold_has : (midway : Option Midway) (topo : Topology) (regions : ℕ → List Area) (fs : List Recorded) (count : ℕ) (row : Row) (manager : ℕ) → manager < count → Contains (untold topo regions fs manager midway) row
    → Contains (untold_of midway topo regions fs count) row
untold_has midway topo regions fs zero row manager lt h = absurd (let wrong : manager < 0 = lt in omega arith)
untold_has midway topo regions fs (suc count) row manager lt h = elim (manager == count) as (λ t. (manager == count) ≡ t → Contains (untold_of midway topo regions fs (suc count)) row) [
  | true ↦ λ e. (let same : manager ≡ count = grind (arith, nat_tests) in
      Contains-append_right (untold_of midway topo regions fs count) (untold topo regions fs count midway) row (subst (λ m. Contains (untold topo regions fs m midway) row) same h))
  | false ↦ λ e. (let less : manager < count = (let below : manager < suc count = lt in grind (arith, nat_tests)) in
      Contains-append_left (untold_of midway topo regions fs count) (untold topo regions fs count midway) row (untold_has midway topo regions fs count row manager less h))
] refl

module _ (midway : Option Midway) (fs : List Recorded) (s : StreamData) (rows rest : List Row) (begins : s.midway ≡ midway) (had : HasTold fs s rows)
    (ends : rest ≡ untold_of s.midway s.topo (areas_in s) fs (length s.topo.managers)) where
  all_told : (row : Row) → Contains (rows ++ rest) row → IsToldBy midway s.topo (areas_in s) fs row
  all_told row h = elim (Contains-append_cases rows rest row h) [
    | inl before ↦ (let known = (had.members row).0 before in (
      known.0,
      known.1,
      Contains-append_left (told s.topo (areas_in s) fs known.0 midway) (untold s.topo (areas_in s) fs known.0 midway) row
          (subst (λ w. Contains (told s.topo (areas_in s) fs known.0 w) row) begins known.2),
    ))
    | inr after ↦ (let known = untold_from s.midway s.topo (areas_in s) fs (length s.topo.managers) row (subst (λ rs. Contains rs row) ends after) in (
      known.0,
      known.1,
      Contains-append_right (told s.topo (areas_in s) fs known.0 midway) (untold s.topo (areas_in s) fs known.0 midway) row
          (subst (λ w. Contains (untold s.topo (areas_in s) fs known.0 w) row) begins known.2),
    ))
  ]

  told_all : (row : Row) → IsToldBy midway s.topo (areas_in s) fs row → Contains (rows ++ rest) row
  told_all row known = elim (Contains-append_cases (told s.topo (areas_in s) fs known.0 midway) (untold s.topo (areas_in s) fs known.0 midway) row known.2) [
    | inl before ↦ Contains-append_left rows rest row ((had.members row).1 (known.0, known.1, subst (λ w. Contains (told s.topo (areas_in s) fs known.0 w) row) (sym begins) before))
    | inr after ↦ Contains-append_right rows rest row (subst (λ rs. Contains rs row) (sym ends)
        (untold_has s.midway s.topo (areas_in s) fs (length s.topo.managers) row known.0 known.1 (subst (λ w. Contains (untold s.topo (areas_in s) fs known.0 w) row) (sym begins) after)))
  ]

  pub exactly_told : (row : Row) → Contains (rows ++ rest) row ↔ IsToldBy midway s.topo (areas_in s) fs row
  exactly_told row = (all_told row, told_all row)

-- What was told, in the order of reports, is the report.
pub are_report : (midway : Option Midway) (topo : Topology) (fs : List Recorded) (told sorted : List Row) → IsPresent fs → ((row : Row) → Contains told row ↔ IsToldBy midway topo (areas_at []) fs row)
    → IsStrictlySortedBy row_order sorted → ((row : Row) → Contains sorted row ↔ Contains told row) → AreReportOf midway topo fs sorted
are_report None topo fs told sorted is are rises same =
    let report : IsReport (captures_with topo fs [] []) sorted =
    streams_tell_the_report topo [] fs sorted is rises (λ row. ((λ h. (are row).0 ((same row).0 h)), (λ h. (same row).1 ((are row).1 h)))) in
    record {
      present = is;
      report = report;
      links = λ k d below. row_linked topo fs is [] [] (get_or sorted k d) ((report.members (get_or sorted k d)).0 (Contains-get_or sorted k d below));
    }
are_report (Some law) topo fs told sorted is are rises same =
    let printed = λ (row : Row). streams_tell_what_is_printed law topo (areas_at []) fs row is in
    sorted_report (Some law) topo fs told sorted is (λ row. ((λ h. (printed row).0 ((are row).0 h)), (λ h. (are row).1 ((printed row).1 h)))) rises same
