use Rattle.std.proofs.Common.{◌≡◌, ℕ, Option, Some, None, ap, sym, subst, ◌∙◌}
use Rattle.std.specs.Prelude.{IfSome}
use Rattle.tl_stream.specs.Fronts.{front_at, IsFrontOf}
use Rattle.tl_stream.specs.Streams.{StreamData}
use Rattle.tl_stream.proofs.stream.Stream.silent.Goals as goal

some_map : (P Q : ℕ → Type 0) (found : Option ℕ) → ((link : ℕ) → P link → Q link) → IfSome found P → IfSome found Q
some_map P Q None step is = tt
some_map P Q (Some link) step is = step link is

pub returns : goal.returns
returns c fs has =
    let fronts : c.deref-3.result.now ≡ c.args.self.now.fronts = c.deref-3.ensures.value ∙ ap (λ (s : StreamData). s.fronts) c.self.view_is in
    some_map (λ link. front_at c.deref-3.result.now link ≡ None) (λ link. IsFrontOf link fs None) c.silent_of.result
    (λ link none. subst (IsFrontOf link fs) (ap (λ fs. front_at fs link) (sym fronts) ∙ none) (has.fronts link)) c.silent_of.ensures
