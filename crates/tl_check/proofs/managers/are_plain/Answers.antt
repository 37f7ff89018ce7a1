use Rattle.std.proofs.Common.{◌≤◌, length, take_all, refl, sym, subst, ◌∙◌, arith}
use Rattle.std.specs.List.{All}
use Rattle.std.proofs.lemmas.List.Elements.{All-more}
use Rattle.tl_check.specs.Managers.{IsPlain}
use Rattle.tl_check.proofs.managers.are_plain.Goals as goal

pub loop-link-preserved : goal.loop-link-preserved
loop-link-preserved c =
    All-more (IsPlain c.args.topo.now) c.args.links.now c.loop-link.link-index 0 c.loop-link-test.true c.loop-link.invariant (sym c.has_caches.ensures ∙ c.if-has_caches.false)

pub returns-then-has_caches : goal.returns-then-has_caches
returns-then-has_caches c = ((λ e. absurd cc), (λ all. sym (all c.loop-link.link-index 0 c.loop-link-test.true) ∙ sym c.has_caches.ensures ∙ c.if-has_caches.true))

pub returns : goal.returns
returns c =
    let past : length c.args.links.now ≤ c.loop-link.link-index = omega arith in
    ((λ e. subst (All (IsPlain c.args.topo.now)) (take_all c.loop-link.link-index c.args.links.now past) c.loop-link.invariant), (λ all. refl))
