use Rattle.std.proofs.Common.{◌∷◌, [], refl}
use Rattle.std.specs.Prelude.{string_bytes}
use Rattle.tl_rows.specs.Words.{joined}
use Rattle.tl_show.proofs.Texts.{in_words}
use Rattle.tl_advice.specs.Summaries.{heading}
use Rattle.tl_advice.proofs.SummaryLaws.{summary_made}
use Rattle.tl_advice.proofs.summary.report_summary.Goals as goal

pub returns : goal.returns
unfolding heading
returns c linked =
    let body = string_bytes c.in_ok-body.body in
    summary_made c.format.result c.args.inputs.now.topo c.args.inputs.now.fragments c.args.rows.now body (c.in_ok-body.ensures linked)
    (in_words c.format.result _ (joined (heading ∷ body ∷ [])) c.format.ensures.ok refl)
