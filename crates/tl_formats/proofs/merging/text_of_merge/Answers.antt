use Rattle.std.proofs.Common.{ℕ, Vec, ap, ◌∙◌}
use Rattle.tl_formats.proofs.merging.text_of_merge.Goals as goal

pub returns : goal.returns
returns c = (c.in_ok-merged.merged, c.in_ok-merged.ensures.merge, ap (λ (v : Vec ℕ _). v.items) c.into_bytes.ensures.value ∙ c.in_ok-text.ensures)
