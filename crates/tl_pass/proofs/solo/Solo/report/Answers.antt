use Rattle.std.proofs.Common.{[], ◌∷◌, None, refl, sym, subst}
use Rattle.tl_topology.specs.Topology.{Topology}
use Rattle.tl_beats.specs.Fragments.{Frag}
use Rattle.tl_definitions.specs.Positions.{Recorded}
use Rattle.tl_capture.specs.Present.{recorded}
use Rattle.tl_pass.specs.Reports.{IsReportIn}
use Rattle.tl_pass.specs.declared.pass.Found.{Found}
use Rattle.tl_pass.proofs.LinkPassLaws.{sorted_report}
use Rattle.tl_pass.proofs.SoloLaws.{found_of_one, one_present, one_stands}
use Rattle.tl_pass.proofs.solo.Solo.report.Goals as goal

pub returns : goal.returns
returns c ps all =
    let f : Frag = all.0 in
    let come = all.1 in
    let solo = c.args.self in
    let topo : Topology = solo.topo.now in
    let own : Recorded = recorded solo.link f in
    let found : Found = record { rows = c.sort_rows.result; lead_ins = 0 } in (
      f,
      all.2,
      (
        refl,
        subst (λ fs. IsReportIn None topo fs found) (sym (one_stands topo solo.link f come.named)) (record {
          rows = sorted_report None topo (own ∷ []) solo.rows.items c.sort_rows.result.items (one_present own come.own)
              (found_of_one topo solo.manager own come.own come.client come.managed solo.left solo.rows.items come.found) c.sort_rows.ensures.rises c.sort_rows.ensures.members;
          lead_ins = tt;
        }),
      ),
    )
