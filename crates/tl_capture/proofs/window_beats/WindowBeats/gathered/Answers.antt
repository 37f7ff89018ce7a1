use Rattle.std.proofs.Common.{◌≡◌, List, ap, subst, ◌∙◌}
use Rattle.std.specs.Arc.{arc_value}
use Rattle.std.specs.List.Sorted.{IsPermutation}
use Rattle.tl_beats.specs.declared.Placed.{Placed}
use Rattle.tl_capture.specs.Parts.{spanned}
use Rattle.tl_capture.proofs.MatchLemmas.{one_order}
use Rattle.tl_capture.proofs.window_beats.WindowBeats.gathered.Goals as goal

pub returns : goal.returns
returns c =
    let all : List Placed = spanned arc_value c.self.inside.from c.self.inside.to c.self.inside.parts.items in
    let copied : c.in_ok-beats.beats.items ≡ all = c.in_ok-beats.ensures ∙ ap (spanned arc_value c.self.inside.from c.self.inside.to) c.deref.ensures.value in
    one_order all c.in_ok-sorted.sorted.items c.self.invariant.rise (subst (λ ps. IsPermutation ps c.in_ok-sorted.sorted.items) copied c.in_ok-sorted.ensures.permutation) c.in_ok-sorted.ensures.order ∙ c.self.view_is
