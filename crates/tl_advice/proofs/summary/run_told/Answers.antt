use Rattle.std.proofs.Common.{◌≡◌, ◌∷◌, [], length, ap, ◌∙◌}
use Rattle.std.specs.Prelude.{string_bytes}
use Rattle.tl_rows.specs.Words.{joined}
use Rattle.tl_advice.specs.Summaries.{heading, unreported_line, edits_line_of}
use Rattle.tl_advice.proofs.summary.run_told.Goals as goal

pub returns : goal.returns
unfolding heading unreported_line
returns c linked =
    let last = string_bytes c.in_ok-edits.edits in
    let line : last ≡ edits_line_of (length c.args.log.now.edits) c.args.asked = c.in_ok-edits.ensures ∙ ap (λ n. edits_line_of n c.args.asked) c.len.ensures.count in
    let is : string_bytes c.in_ok-format-in-None.field-0 ≡ joined (heading ∷ unreported_line ∷ last ∷ []) = c.in_ok-format-in-None.ensures.ok in
    rw c.in-None.is (is ∙ ap (λ l. joined (heading ∷ unreported_line ∷ l ∷ [])) line)
