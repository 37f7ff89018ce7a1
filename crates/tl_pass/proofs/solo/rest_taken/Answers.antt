use Rattle.std.proofs.Common.{[], ◌∷◌, ◌++◌, ap, subst, ◌∙◌}
use Rattle.std.specs.Arc.{arc_value}
use Rattle.tl_beats.specs.Fragments.{Frag}
use Rattle.tl_pass.specs.Reports.{with_next}
use Rattle.tl_pass.proofs.solo.rest_taken.Goals as goal

pub loop-preserved : goal.loop-preserved
loop-preserved g c =
    let piece : Frag = arc_value c.in-Some.piece in
    let begun = c.loop.invariant.begun in
    record {
      begun = (begun.0 ++ piece ∷ [], c.in_ok-take-in-Some.ensures.came begun.0 begun.1);
      topo = ap (λ topo. topo.now) c.in_ok-take-in-Some.ensures.topo ∙ c.loop.invariant.topo;
      came = λ start ps had given.
          let now = c.loop.invariant.came start ps had given in
          (now.0 ++ piece ∷ [], c.in_ok-take-in-Some.ensures.came now.0 now.1, subst (λ o. g.S.Supply.has_given start c.next.new.self (with_next now.0 o)) c.in-Some.is (c.in_ok-piece.ensures start now.0 now.2));
    }

pub returns-in-None-clause-came : goal.returns-in-None-clause-came
returns-in-None-clause-came g c start ps had given =
    let now = c.loop.invariant.came start ps had given in
    (now.0, now.1, subst (λ o. g.S.Supply.has_given start c.next.new.self (with_next now.0 o)) c.in-None.is (c.in_ok-piece.ensures start now.0 now.2))
