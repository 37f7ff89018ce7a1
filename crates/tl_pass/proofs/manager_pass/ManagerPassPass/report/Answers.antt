use Rattle.std.proofs.Common.{◌≡◌, ℕ, [], ◌++◌, length, Option, Some, None, refl, ap, subst, ◌∙◌}
use Rattle.std.specs.Prelude.{◌↔◌, List}
use Rattle.std.specs.Io.Iter.{u64_saturate}
use Rattle.std.specs.List.{Contains}
use Rattle.tl_topology.specs.Topology.{Topology}
use Rattle.tl_beats.specs.declared.Row.{Row}
use Rattle.tl_definitions.specs.Positions.{Recorded}
use Rattle.tl_check.specs.Captured.{areas_at}
use Rattle.tl_midway.specs.Counts.{managers_counted}
use Rattle.tl_midway.specs.LeadIns.{leads_in}
use Rattle.tl_midway.specs.declared.midway.Midway.{Midway}
use Rattle.tl_stream.specs.Laws.{IsToldBy}
use Rattle.tl_stream.specs.Streams.{StreamData, areas_in}
use Rattle.tl_pass.specs.Reports.{AreReportOf, CountsLeadIns}
use Rattle.tl_pass.proofs.ManagerPassLaws.{are_report, exactly_told}
use Rattle.tl_pass.proofs.manager_pass.ManagerPassPass.report.Goals as goal

-- What a stream counted, it counted of these fragments.
counted_in : (midway : Option Midway) (fs : List Recorded) (s : StreamData) (count : ℕ) → s.regions ≡ []
    → ((law : Midway) → midway ≡ Some law → count ≡ u64_saturate (managers_counted leads_in law s.topo (areas_in s) fs (length s.topo.managers))) → CountsLeadIns midway s.topo fs count
counted_in None fs s count bare is = tt
counted_in (Some law) fs s count bare is = subst (λ rs. count ≡ u64_saturate (managers_counted leads_in law s.topo (areas_at rs) fs (length s.topo.managers))) bare (is law refl)

pub returns : goal.returns
returns c midway topo fs had =
    let s : StreamData = c.args.self.stream in
    let rest = c.in_ok-rest.rest in
    let items = c.in_ok-extend_from_slice.ensures.items ∙ ap (λ rs. c.args.self.rows.items ++ rs) c.deref.ensures.value in
    let told = subst (λ rs. (row : Row) → Contains (c.args.self.rows.items ++ rest.rows.items) row ↔ IsToldBy midway s.topo (areas_at rs) fs row) had.2.bare
    (exactly_told midway fs s c.args.self.rows.items rest.rows.items had.0 had.2 (c.in_ok-rest.ensures.rows fs had.2.accepted)) in
    record {
      rows = subst (λ (t : Topology). AreReportOf midway t fs c.sort_rows.result.items) had.1
          (are_report midway s.topo fs (c.args.self.rows.items ++ rest.rows.items) c.sort_rows.result.items had.2.accepted.present told c.sort_rows.ensures.rises
          (λ row. subst (λ rs. Contains c.sort_rows.result.items row ↔ Contains rs row) items (c.sort_rows.ensures.members row)));
      lead_ins = subst (λ (t : Topology). CountsLeadIns midway t fs rest.lead_ins) had.1
          (counted_in midway fs s rest.lead_ins had.2.bare (λ law by. c.in_ok-rest.ensures.lead_ins law fs (had.0 ∙ by) had.2.accepted));
    }
