use Rattle.std.proofs.Common.{◌≡◌, take, sym, ap, subst, ◌∙◌}
use Rattle.std.specs.Prelude.{string_bytes}
use Rattle.tl_edits.specs.Inputs.{InputData}
use Rattle.tl_edits.specs.Log.{inputs_after}
use Rattle.tl_advice.specs.Tallies.{AreLinked}
use Rattle.tl_advice.specs.Summaries.{IsReported}
use Rattle.tl_advice.proofs.summary.reported_of.Goals as goal

pub returns : goal.returns
returns c linked =
    let topo = c.args.log.now.topo in
    let edits = c.args.log.now.edits in
    let report = c.args.report.now in
    let inputs = c.in_ok-inputs.inputs in
    let last = c.args.last.now in
    let bytes = string_bytes c.in_ok-reported.field-0 in
    let is : inputs.topo ≡ topo = c.in_ok-inputs.ensures.topo in
    let fragments : inputs.fragments ≡ (inputs_after topo (take report.edit edits)).fragments =
    ap (λ (i : InputData). i.fragments) (c.in_ok-inputs.ensures.exact ∙ ap (λ n. inputs_after topo (take n edits)) c.edit.ensures) in
    subst (λ fs. IsReported topo fs report last bytes) fragments
    (subst (λ t. IsReported t inputs.fragments report last bytes) is (c.in_ok-reported.ensures (subst (λ t. AreLinked t report.rows) (sym is) linked)))
