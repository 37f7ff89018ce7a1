use Rattle.std.proofs.Common.{◌≡◌, ◌∷◌, ◌++◌, [], Some, rules, ap, ◌∙◌}
use Rattle.tl_text.specs.Words.{lines_of}
use Rattle.tl_text.proofs.Cuts.{Line}
use Rattle.std.specs.Prelude.{option_map}
use Rattle.tl_stream.specs.Shares.{without_beats}
use Rattle.tl_stream.proofs.ShareLemmas.{header_lines}
use Rattle.tl_stream.proofs.share.header_alone.Goals as goal

pub returns : goal.returns
returns c =
    let items : c.extend_from_slice.new.self.items ≡ c.in-Some.header.now ++ 10 ∷ 101 ∷ 110 ∷ 100 ∷ 10 ∷ [] = search rules in
    let lines = header_lines c.args.text.now c.in-Some.header.now c.in-Some.field-0-1.now c.in-Some.ensures.exact in
    ap (λ bytes. Some (lines_of bytes)) items ∙ ap Some lines ∙ ap (λ o. option_map (λ (first : Line). without_beats first.0) o) c.in-Some.ensures.lines
