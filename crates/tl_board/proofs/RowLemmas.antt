-- The rows of all windows of monitors are those that their watches flag.
use Rattle.std.proofs.Common.{◌≡◌, ℕ, List, [], ◌∷◌, Option, Some, None, true, refl, sym, ap, subst, ◌∙◌}
use Rattle.std.specs.Prelude.{◌↔◌, is_some}
use Rattle.std.specs.Option.{option_map_or}
use Rattle.std.specs.List.{Contains}
use Rattle.tl_topology.specs.Topology.{number_of_name}
use Rattle.tl_beats.specs.Watches.{link_of}
use Rattle.tl_beats.specs.declared.Placed.{Placed}
use Rattle.tl_beats.specs.declared.Row.{Row}
use Rattle.tl_beats.specs.declared.watch.Watch.{Watch}
use Rattle.tl_beats.specs.declared.watch.Watch.TheVariants as watch
use Rattle.tl_definitions.specs.Passes.{Judge, rows_judged}
use Rattle.tl_definitions.specs.Positions.{beats_of}
use Rattle.tl_definitions.specs.Report.{Capture, Finds, FindsIn}
use Rattle.tl_definitions.specs.Tallies.{watching, tally_of}
use Rattle.tl_definitions.specs.Watching.{Flags, flags_in}
use Rattle.tl_definitions.proofs.Lists.{all_of, contains_mapped, mapped_from}
use Rattle.tl_definitions.proofs.WatchLaws.{all_flagged, rows_are_flags}
use Rattle.tl_edits.specs.Inputs.{InputData, watch_at, attached}
use Rattle.tl_pieces.specs.declared.key.PieceKey.{PieceKey}
use Rattle.tl_pieces.specs.Pieces.{Piece, Board, IsBoard, EachOwnerIsChained, opening_of, result_of}
use Rattle.tl_check.specs.Captured.{watched_beats, watch_capture, watch_captures}
use Rattle.tl_capture.specs.Present.{IsPresent}
use Rattle.tl_capture.specs.Windows.{AreWindows, joined}
use Rattle.tl_capture.proofs.LawLemmas.{windows_are_whole, one_link_is_its_own}
use Rattle.tl_board.specs.Covers.{HasRow}
use Rattle.tl_board.specs.Rows.{all_rows}
use Rattle.tl_board.proofs.CoverLemmas.{whole, found_at, at_found, some_of, piece_of_result}
use Rattle.tl_board.proofs.FoundLemmas.{row_from, row_in}
use Rattle.tl_board.specs.declared.tally.Tally.{Tally}
use Rattle.tl_board.specs.Tally.{SameTally}
use Rattle.tl_board.specs.Watches.{beats_for, judge_for, no_tally, ShowsTally, AreWatches}
use Rattle.tl_board.proofs.MonitorLemmas.{AreInOrder, attached_has, attached_from}
use Rattle.tl_board.proofs.PassLemmas.{judge_is, beats_are}

none_joined : (windows : List ℕ) → joined windows [] ≡ []
none_joined [] = refl
none_joined (window ∷ windows) = none_joined windows

-- Without beats the tally is 0.
none_tallied : (w : Watch) → 0 ≡ tally_of w []
none_tallied (watch.Budget link class limit) = refl
none_tallied (watch.After link first second) = refl

module _ (now : InputData) (board : Board Tally (List Row)) (are : AreWatches now board) (is : IsBoard board) (present : IsPresent now.fragments) (rise : AreInOrder now.monitors) (chained : EachOwnerIsChained SameTally board) where
  exact : (o : ℕ) (one two : Tally) (x y : ℕ) → ShowsTally now o one x → ShowsTally now o two y → SameTally one two → x ≡ y
  exact o one two x y first second same = sym first.shows ∙ same ∙ second.shows

  -- The windows of a watched link have all its beats.
  whole_link : (found : Option ℕ) (windows : List ℕ) → AreWindows (option_map_or (λ link. beats_of link now.fragments) found []) windows
      → joined windows (option_map_or (λ link. beats_of link now.fragments) found []) ≡ option_map_or (λ link. beats_of link now.fragments) found []
  whole_link None windows h = none_joined windows
  whole_link (Some link) windows h =
      subst (λ ps. AreWindows ps windows → joined windows ps ≡ ps) (one_link_is_its_own link now.fragments present) (windows_are_whole (link ∷ []) now.fragments windows present) h

  of_owner : (o : ℕ) (w : Watch) → watch_at o now.monitors ≡ Some w → (row : Row) → HasRow board o row ↔ Flags o w (watched_beats now.topo now.fragments w) row
  of_owner o w at row =
      let beats : List Placed = watched_beats now.topo now.fragments w in
      let own : beats_for now o ≡ beats = beats_are now o w at in
      let state = some_of (opening_of o board.openings) (are.owners o ∙ ap is_some at) in
      let has = whole (ShowsTally now) (judge_for now) (beats_for now) SameTally exact o no_tally board is are.covered chained state.0 state.1
      (λ windows h. subst (λ ps. AreWindows ps windows → joined windows ps ≡ ps) (sym own) (whole_link (number_of_name now.topo.links (link_of w)) windows) h) row in
      let rows : rows_judged (judge_for now o) 0 (beats_for now o) ≡ flags_in o w beats =
      ap (λ (j : Judge ℕ). rows_judged j 0 (beats_for now o)) (judge_is now o w at) ∙ ap (rows_judged (watching o w) 0) own
      ∙ ap (λ t. rows_judged (watching o w) t beats) (none_tallied w) ∙ all_flagged o w [] beats (are.fits o w at) in
      let flags = rows_are_flags o w beats row in (
        (λ h. flags.0 (subst (λ rs. Contains rs row) rows (has.0 h))),
        (λ h. has.1 (subst (λ rs. Contains rs row) (sym rows) (flags.1 h))),
      )

  pub all_found : (row : Row) → Contains (all_rows board.pieces) row ↔ FindsIn (watch_captures now.topo now.fragments (attached now.monitors)) row
  all_found row = (
    (λ h. let from = row_from board.pieces row h in
        let o : ℕ = from.0.0.owner in
        let owned = all_of (λ (e : PieceKey × Piece Tally (List Row)). is_some (opening_of e.0.owner board.openings) ≡ true) board.pieces is.owned from.0 from.2 in
        let at = some_of (watch_at o now.monitors) (sym (are.owners o) ∙ owned) in
        let flags = (of_owner o at.0 at.1 row).0 (from.0.0, from.1, refl, ap result_of (found_at board is from.0 from.2) ∙ from.3, from.4) in
        let capture : Capture = watch_capture now.topo now.fragments (o, at.0) in
        (capture, contains_mapped (watch_capture now.topo now.fragments) (attached now.monitors) (o, at.0) (attached_has now.monitors o at.0 at.1), flags)),
    (λ h. let found = mapped_from (watch_capture now.topo now.fragments) (attached now.monitors) h.0 h.1 in
        let e : ℕ × Watch = found.0 in
        let flags : Finds (watch_capture now.topo now.fragments e) row = subst (λ (c : Capture). Finds c row) (sym found.2) h.2 in
        let has = (of_owner e.0 e.1 (attached_from now.monitors rise e found.1) row).1 flags in
        let piece = piece_of_result _ has.1 has.3 in
        row_in board.pieces (has.0, piece.0) has.1 row (at_found board has.0 piece.0 piece.1) piece.2 has.4),
  )
