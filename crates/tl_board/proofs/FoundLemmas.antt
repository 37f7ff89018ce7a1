-- The rows of all windows are those that the definitions find.
use Rattle.std.proofs.Common.{◌≡◌, ℕ, ◌+◌, ◌<◌, ◌≤◌, inl, inr, true, false, List, [], ◌∷◌, Option, Some, None, length, nat_lt, refl, sym, ap, subst, ◌∙◌, arith}
use Rattle.std.specs.Prelude.{◌↔◌, is_some}
use Rattle.std.specs.List.{Contains}
use Rattle.std.proofs.lemmas.Bool.Decides.{nat_tests}
use Rattle.std.proofs.lemmas.List.Elements.{Contains-append_left, Contains-append_right, Contains-append_cases}
use Rattle.tl_topology.specs.Regions.{Area}
use Rattle.tl_topology.specs.Topology.{Topology}
use Rattle.tl_beats.specs.declared.Row.{Row}
use Rattle.tl_definitions.specs.Breaks.{Breaks, rows_in}
use Rattle.tl_definitions.specs.Captures.{captures_from, captures_of, manager_beats}
use Rattle.tl_definitions.specs.Judging.{Snapshot, judging}
use Rattle.tl_definitions.specs.Managers.{declared_links, manager_at}
use Rattle.tl_definitions.specs.Passes.{rows_judged}
use Rattle.tl_definitions.specs.Positions.{Recorded, clients_of}
use Rattle.tl_definitions.specs.Report.{Capture, Finds, FindsIn}
use Rattle.tl_definitions.proofs.JudgingLaws.{all_exact}
use Rattle.tl_definitions.proofs.Lists.{contains_none, contains_here, contains_there, contains_cases, all_of}
use Rattle.tl_definitions.proofs.ReportLaws.{rows_are_breaks}
use Rattle.tl_edits.specs.Inputs.{InputData}
use Rattle.tl_pieces.specs.declared.key.PieceKey.{PieceKey}
use Rattle.tl_pieces.specs.Pieces.{Piece, Board, IsBoard, EachOwnerIsChained, opening_of, piece_at, result_of}
use Rattle.tl_pieces.specs.Pieces as pieces
use Rattle.tl_check.specs.Captured.{areas_at}
use Rattle.tl_check.proofs.CaptureLaws.{capture_with}
use Rattle.tl_check.specs.States.{SameSpan}
use Rattle.tl_check.specs.declared.state.SpanState.{SpanState}
use Rattle.tl_check.proofs.StateLaws.{same_shown}
use Rattle.tl_capture.specs.Present.{IsPresent}
use Rattle.tl_capture.proofs.LawLemmas.{windows_are_whole}
use Rattle.tl_board.specs.Covers.{HasRow}
use Rattle.tl_board.specs.Rows.{rows_of, all_rows}
use Rattle.tl_board.specs.Spans.{manager_in, ShowsOf, opening_in, HasManagers, AreSpans}
use Rattle.tl_board.proofs.CoverLemmas.{whole, found_at, at_found, some_of, piece_of_result}

-- ---- the rows of a list of pieces

pub row_from : {S : Type 0} (es : List (PieceKey × Piece S (List Row))) (row : Row) → Contains (all_rows es) row
    → (e : PieceKey × Piece S (List Row)) × (r : pieces.Pass S (List Row)) × Contains es e × (e.1.result ≡ Some r) × Contains r.rows row
row_from [] row h = absurd (contains_none row h)
row_from {S} (e ∷ es) row h = elim (Contains-append_cases (rows_of e.1.result) (all_rows es) row h) [
  | inl here ↦ go e.1.result refl here
  | inr there ↦ (let f = row_from es row there in (f.0, f.1, contains_there e es f.0 f.2, f.3, f.4))
]
  where
    go : (found : Option (pieces.Pass S (List Row))) → e.1.result ≡ found → Contains (rows_of found) row
        → (x : PieceKey × Piece S (List Row)) × (r : pieces.Pass S (List Row)) × Contains (e ∷ es) x × (x.1.result ≡ Some r) × Contains r.rows row
    go None is h = absurd (contains_none row h)
    go (Some r) is h = (e, r, contains_here e es, is, h)

pub row_in : {S : Type 0} (es : List (PieceKey × Piece S (List Row))) (e : PieceKey × Piece S (List Row)) (r : pieces.Pass S (List Row)) (row : Row)
    → Contains es e → e.1.result ≡ Some r → Contains r.rows row → Contains (all_rows es) row
row_in [] e r row h is has = absurd (contains_none e h)
row_in (x ∷ es) e r row h is has = elim (contains_cases x es e h) [
  | inl here ↦ Contains-append_left (rows_of x.1.result) (all_rows es) row (subst (λ found. Contains (rows_of found) row) (sym (ap (λ y. y.1.result) here ∙ is)) has)
  | inr there ↦ Contains-append_right (rows_of x.1.result) (all_rows es) row (row_in es e r row there is has)
]

-- ---- the captures of managers by number

found_of : {X : Type 0} (topo : Topology) (regions : ℕ → List Area) (fs : List Recorded) (from : ℕ) (managers : List X) (row : Row) → FindsIn (captures_from topo regions fs from managers) row
    → (number : ℕ) × (number < from + length managers) × Breaks (manager_at topo number (regions number)) (manager_beats topo fs number) row
found_of topo regions fs from [] row h = absurd (contains_none h.0 h.1)
found_of topo regions fs from (m ∷ managers) row h = elim (contains_cases (capture_with topo regions fs from) (captures_from topo regions fs (from + 1) managers) h.0 h.1) [
  | inl here ↦ (from, omega arith, subst (λ (c : Capture). Finds c row) (sym here) h.2)
  | inr there ↦ (let f = found_of topo regions fs (from + 1) managers row (h.0, there, h.2) in let below : f.0 < from + 1 + length managers = f.1 in (f.0, omega arith, f.2))
]

finds_at : {X : Type 0} (topo : Topology) (regions : ℕ → List Area) (fs : List Recorded) (from : ℕ) (managers : List X) (row : Row) (number : ℕ) → from ≤ number → number < from + length managers
    → Breaks (manager_at topo number (regions number)) (manager_beats topo fs number) row → FindsIn (captures_from topo regions fs from managers) row
finds_at topo regions fs from [] row number low high h = absurd (omega arith)
finds_at topo regions fs from (m ∷ managers) row number low high h = elim (nat_lt from number) as (λ b. nat_lt from number ≡ b → FindsIn (captures_from topo regions fs from (m ∷ managers)) row) [
  | true ↦ λ t. (let above : from < number = grind (arith, nat_tests) in
      let f = finds_at topo regions fs (from + 1) managers row number (omega arith) (omega arith) h in
      (f.0, contains_there (capture_with topo regions fs from) (captures_from topo regions fs (from + 1) managers) f.0 f.1, f.2))
  | false ↦ λ t. (let here : number ≡ from = grind (arith, nat_tests) in (
    capture_with topo regions fs from,
    contains_here (capture_with topo regions fs from) (captures_from topo regions fs (from + 1) managers),
    subst (λ n. Breaks (manager_at topo n (regions n)) (manager_beats topo fs n) row) here h,
  ))
] refl

-- ---- both

module _ (now : InputData) (topo : Topology) (same_topo : now.topo ≡ topo) (board : Board SpanState (List Row)) (managers : HasManagers topo (length topo.managers) board) (covers : AreSpans now board)
    (is : IsBoard board) (present : IsPresent now.fragments) (chained : EachOwnerIsChained SameSpan board) where
  exact : (o : ℕ) (one two : SpanState) (x y : Snapshot) → ShowsOf now o one x → ShowsOf now o two y → SameSpan one two → x ≡ y
  exact o one two x y first second same = sym first.1 ∙ same_shown one two same ∙ second.1

  of_owner : (o : ℕ) → is_some (opening_of o board.openings) ≡ true → (row : Row) → HasRow board o row ↔ Breaks (manager_in now o) (manager_beats now.topo now.fragments o) row
  of_owner o owner row =
      let state = some_of (opening_of o board.openings) owner in
      let links : List ℕ = clients_of o (declared_links now.topo) in
      let has = whole (ShowsOf now) (λ m. judging (manager_in now m)) (λ m. manager_beats now.topo now.fragments m) SameSpan exact o (opening_in now) board is covers chained state.0 state.1
      (λ windows are. windows_are_whole links now.fragments windows present are) row in
      let rows : rows_judged (judging (manager_in now o)) (opening_in now o) (manager_beats now.topo now.fragments o) ≡ rows_in (manager_in now o) (manager_beats now.topo now.fragments o) =
      all_exact (manager_in now o) [] (manager_beats now.topo now.fragments o) in
      let breaks = rows_are_breaks (manager_in now o) (manager_beats now.topo now.fragments o) row in (
        (λ h. breaks.0 (subst (λ rs. Contains rs row) rows (has.0 h))),
        (λ h. has.1 (subst (λ rs. Contains rs row) (sym rows) (breaks.1 h))),
      )

  pub all_found : (row : Row) → Contains (all_rows board.pieces) row ↔ FindsIn (captures_of topo (areas_at now.regions) now.fragments) row
  all_found row = (
    (λ h. let from = row_from board.pieces row h in
        let owned = all_of (λ (e : PieceKey × Piece SpanState (List Row)). is_some (opening_of e.0.owner board.openings) ≡ true) board.pieces is.owned from.0 from.2 in
        let o : ℕ = from.0.0.owner in
        let at = found_at board is from.0 from.2 in
        let breaks = (of_owner o owned row).0 (from.0.0, from.1, refl, ap result_of at ∙ from.3, from.4) in
        let test : nat_lt o (length topo.managers) ≡ true = sym (managers.owners o) ∙ owned in
        let below : o < length topo.managers = grind (arith, nat_tests) in
        finds_at topo (areas_at now.regions) now.fragments 0 topo.managers row o (omega arith) (omega arith)
        (subst (λ t. Breaks (manager_at t o (areas_at now.regions o)) (manager_beats t now.fragments o) row) same_topo breaks)),
    (λ h. let f = found_of topo (areas_at now.regions) now.fragments 0 topo.managers row h in
        let below : f.0 < 0 + length topo.managers = f.1 in
        let test : nat_lt f.0 (length topo.managers) ≡ true = grind (arith, nat_tests) in
        let has = (of_owner f.0 (managers.owners f.0 ∙ test) row).1 (subst (λ t. Breaks (manager_at t f.0 (areas_at now.regions f.0)) (manager_beats t now.fragments f.0) row) (sym same_topo) f.2) in
        let piece = piece_of_result (piece_at has.0 board) has.1 has.3 in
        row_in board.pieces (has.0, piece.0) has.1 row (at_found board has.0 piece.0 piece.1) piece.2 has.4),
  )
