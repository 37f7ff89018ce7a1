use Rattle.std.proofs.Common.{rules, ◌≡◌, Some, None, Ok, Err, ap, sym, ◌∙◌, subst}
use Rattle.std.specs.Prelude.{IfOk, IfErr}
use Rattle.tl_topology.specs.Topology.{Topology}
use Rattle.tl_desk.specs.Core.{AreLinked}
use Rattle.tl_desk.specs.declared.fault.PublishFault.TheVariants as fault
use Rattle.tl_check.specs.Output.{ReportData, report_bytes}
use Rattle.tl_hall.specs.Passes.{Looked, IsLatest}
use Rattle.tl_script.specs.Asked.{a_report}
use Rattle.tl_run.specs.Output.{RunData, IsStep}
use Rattle.tl_script.specs.Replies.{refused_text}
use Rattle.tl_workers.specs.Crew.{HasPublished, IsUnpublished, progress_in, rows_in}
use Rattle.tl_workers.proofs.Knowing.{linked, publish_made, publish_full, read_finds, run_sole, run_topo, run_step}
use Rattle.tl_workers.proofs.crew.Crew.publish.Goals as goal

pub unreachable-requires : goal.unreachable-requires
unreachable-requires g c =
    let s = c.self.inside in
    let p = c.unwrap-pass.result in
    let is : s.pass ≡ Some p = search rules in
    let q = c.published-pass.result.0 in
    let has = subst (λ x. IfOk x (λ version. HasPublished p version q)) c.in-Ok.is c.published-pass.ensures.ok in
    let found : c.read-pass.result.1 ≡ Ok None = search rules in
    let look = subst (λ x. IfOk x (λ r. Looked q (IsLatest r) c.read-pass.result.0)) found c.read-pass.ensures.ok in
    read_finds p q c.read-pass.result.0 c.in-Ok.field-0 (run_sole s.hall.now s.topo.now s.pass (rows_in s.last) s.boxes c.args.self.now c.self.view_is c.self.invariant p is) has look

pub returns-in_ok-copy-in-Ok-Some-clause-links : goal.returns-in_ok-copy-in-Ok-Some-clause-links
returns-in_ok-copy-in-Ok-Some-clause-links g c =
    let s = c.self.inside in
    let p = c.unwrap-pass.result in
    let is : s.pass ≡ Some p = search rules in
    let q = c.published-pass.result.0 in
    let has = subst (λ x. IfOk x (λ version. HasPublished p version q)) c.in-Ok.is c.published-pass.ensures.ok in
    let found : c.read-pass.result.1 ≡ Ok (Some c.in-Ok-Some.report) = search rules in
    let look = subst (λ x. IfOk x (λ r. Looked q (IsLatest r) c.read-pass.result.0)) found c.read-pass.ensures.ok in
    let topo = has.2.same.1 ∙ (has.1.same.1 ∙ run_topo s.hall.now s.topo.now s.pass (rows_in s.last) s.boxes c.args.self.now c.self.view_is c.self.invariant p is) in
    let view : s.topo.now ≡ c.args.self.now.setting.topo = ap (λ (r : RunData). r.setting.topo) c.self.view_is in
    subst (λ (t : Topology). AreLinked t c.in-Ok-Some.report.rows) (topo ∙ view) (linked q c.read-pass.result.0 c.in-Ok-Some.report look)

pub returns-in_ok-copy-in-Ok-Some-clause-step : goal.returns-in_ok-copy-in-Ok-Some-clause-step
returns-in_ok-copy-in-Ok-Some-clause-step g c =
    let s = c.self.inside in
    let p = c.unwrap-pass.result in
    let is : s.pass ≡ Some p = search rules in
    let q = c.published-pass.result.0 in
    let report = c.in-Ok-Some.report in
    let line = report_bytes c.args.self.now.setting.topo report in
    let has = subst (λ x. IfOk x (λ version. HasPublished p version q)) c.in-Ok.is c.published-pass.ensures.ok in
    let found : c.read-pass.result.1 ≡ Ok (Some report) = search rules in
    let look = subst (λ x. IfOk x (λ r. Looked q (IsLatest r) c.read-pass.result.0)) found c.read-pass.ensures.ok in
    let topo = run_topo s.hall.now s.topo.now s.pass (rows_in s.last) s.boxes c.args.self.now c.self.view_is c.self.invariant p is in
    let sole = run_sole s.hall.now s.topo.now s.pass (rows_in s.last) s.boxes c.args.self.now c.self.view_is c.self.invariant p is in
    let view : s.topo.now ≡ c.args.self.now.setting.topo = ap (λ (r : RunData). r.setting.topo) c.self.view_is in
    let said : line ≡ report_bytes p.topo report = ap (λ t. report_bytes t report) (sym view ∙ sym topo) in
    let same = c.in_ok-copy-in-Ok-Some.ensures in
    subst (λ (r : ReportData). IsStep c.args.self.now.setting c.args.self.now.now a_report line (progress_in c.read-pass.result.0.seen r.rows)) (sym same)
    (run_step s.hall.now s.topo.now s.pass (rows_in s.last) s.boxes c.args.self.now c.self.view_is c.self.invariant p is a_report line (progress_in c.read-pass.result.0.seen report.rows)
    (publish_made p q c.read-pass.result.0 (rows_in s.last) c.in-Ok.field-0 report line sole has look said))

pub returns-in-Err-VersionFull-clause-step : goal.returns-in-Err-VersionFull-clause-step
returns-in-Err-VersionFull-clause-step g c =
    let s = c.self.inside in
    let p = c.unwrap-pass.result in
    let is : s.pass ≡ Some p = search rules in
    let q = c.published-pass.result.0 in
    let full : c.published-pass.result.1 ≡ Err fault.VersionFull = search rules in
    let un = subst (λ x. IfErr x (λ f. IsUnpublished p f q)) full c.published-pass.ensures.err in
    let code : c.code.result ≡ 32 = search rules in
    let sole = run_sole s.hall.now s.topo.now s.pass (rows_in s.last) s.boxes c.args.self.now c.self.view_is c.self.invariant p is in
    run_step s.hall.now s.topo.now s.pass (rows_in s.last) s.boxes c.args.self.now c.self.view_is c.self.invariant p is a_report (refused_text c.code.result None) (progress_in q.seen (rows_in s.last))
    (publish_full p q (rows_in s.last) (refused_text c.code.result None) sole un (ap (λ n. refused_text n None) code))
