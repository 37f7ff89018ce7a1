use Rattle.std.proofs.Common.{◌∷◌, [], refl, sym, subst}
use Rattle.std.specs.Prelude.{string_bytes}
use Rattle.tl_rows.specs.Words.{joined}
use Rattle.tl_show.proofs.Texts.{in_words}
use Rattle.tl_advice.specs.Summaries.{heading, report_line_of, IsBody}
use Rattle.tl_advice.specs.Tallies.{AreLinked}
use Rattle.tl_advice.proofs.SummaryLaws.{report_made}
use Rattle.tl_advice.proofs.summary.reported.Goals as goal

pub returns : goal.returns
unfolding heading
returns c linked =
    let topo = c.args.inputs.now.topo in
    let report = c.args.report.now in
    let body = string_bytes c.in_ok-body.body in
    report_made c.format.result c.args.inputs.now.topo c.args.inputs.now.fragments report c.args.last.now body
    (subst (λ rows. IsBody topo c.args.inputs.now.fragments rows body) c.rows.ensures (c.in_ok-body.ensures (subst (AreLinked topo) (sym c.rows.ensures) linked)))
    (in_words c.format.result _ (joined (heading ∷ report_line_of report ∷ body ∷ c.args.last.now ∷ [])) c.format.ensures.ok (rw (c.in_ok-line.ensures) refl))
