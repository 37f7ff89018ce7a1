use Rattle.std.proofs.Common.{◌≡◌, ◌<◌, ◌++◌, List, get_or, length, sym, ap, subst, ◌∙◌}
use Rattle.std.proofs.lemmas.List.Elements.{Contains-get_or}
use Rattle.tl_topology.specs.Topology.{Topology}
use Rattle.tl_definitions.specs.Captures.{captures_of}
use Rattle.tl_definitions.specs.Report.{IsReport}
use Rattle.tl_definitions.proofs.ReportLaws.{found_rows_are_the_report}
use Rattle.tl_edits.specs.Inputs.{InputData, attached}
use Rattle.tl_pieces.specs.Pieces.{Board, IsSettled}
use Rattle.tl_check.specs.Captured.{areas_at, watch_captures, captures_after}
use Rattle.tl_check.specs.Found.{AreFound}
use Rattle.tl_check.proofs.CaptureLaws.{one_place, row_linked}
use Rattle.tl_check.proofs.ScratchLaws.{both_found}
use Rattle.tl_capture.specs.Present.{IsPresent}
use Rattle.tl_board.specs.Spans.{SpansData, standing}
use Rattle.tl_beats.specs.declared.Row.{Row}
use Rattle.tl_board.specs.Rows.{all_rows}
use Rattle.tl_board.specs.declared.tally.Tally.{Tally}
use Rattle.tl_board.specs.Tally.{SameTally}
use Rattle.tl_board.specs.Watches.{WatchesData}
use Rattle.tl_board.proofs.MonitorLemmas.{monitors_rise}
use Rattle.tl_board.proofs.RowLemmas.{all_found}
use Rattle.tl_board.proofs.watches.Watches.rows.Goals as goal

pub returns-clause-report : goal.returns-clause-report
returns-clause-report c =
    let spans : SpansData = c.self.inside.spans in
    let now : InputData = standing spans in
    let told : now.topo ≡ spans.log.topo = c.rows.ensures.topo in
    let topo : spans.log.topo ≡ now.topo = sym told in
    let present : IsPresent now.fragments = c.rows.ensures.present in
    let managers : AreFound (captures_of now.topo (areas_at now.regions) now.fragments) c.in_ok-rows.rows.items =
    subst (λ (t : Topology). AreFound (captures_of t (areas_at now.regions) now.fragments) c.in_ok-rows.rows.items) topo c.in_ok-rows.ensures.found in
    let settled : IsSettled SameTally c.self.inside.pieces = subst (λ (d : WatchesData). IsSettled SameTally d.board) (sym c.self.view_is) c.requires.board in
    let monitors : AreFound (watch_captures now.topo now.fragments (attached now.monitors)) c.in_ok-flagged.flagged.items =
    subst (AreFound (watch_captures now.topo now.fragments (attached now.monitors))) (sym (c.in_ok-flagged.ensures ∙ ap (λ (b : Board Tally (List Row)). all_rows b.pieces) c.known.ensures.same))
    (all_found now c.self.inside.pieces c.self.invariant c.known.ensures.board present (monitors_rise spans.log.topo spans.log.edits) (c.known.ensures.chains settled)) in
    let found = both_found (captures_of now.topo (areas_at now.regions) now.fragments) (watch_captures now.topo now.fragments (attached now.monitors)) c.in_ok-rows.rows.items c.in_ok-flagged.flagged.items
    c.extend_from_slice.new.self.items c.sort_rows.result.items managers monitors (c.in_ok-extend_from_slice.ensures.items ∙ ap (λ rs. c.in_ok-rows.rows.items ++ rs) c.deref.ensures.value) c.sort_rows.ensures.members in
    subst (λ (d : WatchesData). IsReport (captures_after (standing d.spans)) c.sort_rows.result.items) c.self.view_is
    (found_rows_are_the_report (captures_after now) c.sort_rows.result.items (one_place now.topo now.fragments present now.regions (attached now.monitors)) c.sort_rows.ensures.rises found)

pub returns-clause-links : goal.returns-clause-links
returns-clause-links c k d below =
    let spans : SpansData = c.self.inside.spans in
    let now : InputData = standing spans in
    let told : now.topo ≡ spans.log.topo = c.rows.ensures.topo in
    let present : IsPresent now.fragments = c.rows.ensures.present in
    let report : IsReport (captures_after now) c.sort_rows.result.items = subst (λ (d : WatchesData). IsReport (captures_after (standing d.spans)) c.sort_rows.result.items) (sym c.self.view_is) (returns-clause-report c) in
    let row = get_or c.sort_rows.result.items k d in
    let linked : row.link < length now.topo.links = row_linked now.topo now.fragments present now.regions (attached now.monitors) row ((report.members row).0 (Contains-get_or c.sort_rows.result.items k d below)) in
    subst (λ (d : WatchesData). row.link < length d.spans.log.topo.links) c.self.view_is (subst (λ (t : Topology). row.link < length t.links) told linked)
