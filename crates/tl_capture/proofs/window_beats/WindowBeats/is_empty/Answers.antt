use Rattle.std.proofs.Common.{sym, ap, ◌∙◌, length}
use Rattle.std.specs.Prelude.{◌==◌}
use Rattle.std.specs.Arc.{arc_value}
use Rattle.tl_capture.specs.Parts.{spanned}
use Rattle.tl_capture.proofs.PartLemmas.{order_length}
use Rattle.tl_capture.proofs.window_beats.WindowBeats.is_empty.Goals as goal

pub returns : goal.returns
returns c = ap (λ n. n == 0) (c.count.ensures ∙ ap (λ ps. length (spanned arc_value c.self.inside.from c.self.inside.to ps)) c.deref.ensures.value
    ∙ sym (order_length (spanned arc_value c.self.inside.from c.self.inside.to c.self.inside.parts.items)) ∙ ap length c.self.view_is)
