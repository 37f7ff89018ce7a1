use Rattle.std.proofs.Common.{◌++◌, get_or, ap, ◌∙◌}
use Rattle.std.proofs.lemmas.List.Elements.{Contains-get_or}
use Rattle.tl_definitions.specs.Captures.{captures_of}
use Rattle.tl_definitions.proofs.ReportLaws.{found_rows_are_the_report}
use Rattle.tl_check.specs.Captured.{areas_at, captures_with, watch_captures}
use Rattle.tl_check.proofs.CaptureLaws.{one_place, row_linked}
use Rattle.tl_check.proofs.ScratchLaws.{both_found}
use Rattle.tl_check.proofs.checking.with_watches.Goals as goal

pub returns-clause-report : goal.returns-clause-report
returns-clause-report c regions found =
    let topo = c.args.topo.now in
    let fs = c.args.present.now in
    let watches = c.args.watches.now in
    found_rows_are_the_report (captures_with topo fs regions watches) c.sort_rows.result.items (one_place topo fs c.is_empty.ensures.kept regions watches) c.sort_rows.ensures.rises
    (both_found (captures_of topo (areas_at regions) fs) (watch_captures topo fs watches) c.args.managers.items c.in_ok-flagged.flagged.items c.extend_from_slice.new.self.items c.sort_rows.result.items
    found c.in_ok-flagged.ensures (c.in_ok-extend_from_slice.ensures.items ∙ ap (λ more. c.args.managers.items ++ more) c.deref.ensures.value) c.sort_rows.ensures.members)

pub returns-clause-links : goal.returns-clause-links
returns-clause-links c regions found k d below =
    let topo = c.args.topo.now in
    let fs = c.args.present.now in
    let watches = c.args.watches.now in
    let row = get_or c.sort_rows.result.items k d in
    row_linked topo fs c.is_empty.ensures.kept regions watches row
    ((both_found (captures_of topo (areas_at regions) fs) (watch_captures topo fs watches) c.args.managers.items c.in_ok-flagged.flagged.items c.extend_from_slice.new.self.items c.sort_rows.result.items
    found c.in_ok-flagged.ensures (c.in_ok-extend_from_slice.ensures.items ∙ ap (λ more. c.args.managers.items ++ more) c.deref.ensures.value) c.sort_rows.ensures.members row).0
    (Contains-get_or c.sort_rows.result.items k d below))
