use Rattle.std.proofs.Common.{◌<◌, length, sym, subst, ◌∙◌}
use Rattle.std.specs.List.{All}
use Rattle.std.proofs.lemmas.List.Elements.{All-head, All-tail}
use Rattle.tl_beats.specs.Beats.{IsWellFormed}
use Rattle.tl_beats.specs.declared.Placed.{Placed}
use Rattle.tl_view.proofs.scene.see_all.Goals as goal

pub loop-place-init : goal.loop-place-init
loop-place-init c =
    let begins = c.into_iter-place-iterator.ensures.into_iter_gives in
    record {
      formed = subst (All (λ (p : Placed). IsWellFormed p.beat)) (sym begins) c.requires.formed;
      within = subst (All (λ (p : Placed). p.link < length c.args.topo.now.links)) (sym begins) c.requires.within;
      count = c.requires.count;
    }

pub see-requires-clause-beat : goal.see-requires-clause-beat
see-requires-clause-beat c =
    All-head (λ (p : Placed). IsWellFormed p.beat) c.in-Some.place c.next.new.self (subst (All (λ (p : Placed). IsWellFormed p.beat)) c.in-Some.ensures.steps c.loop-place.invariant.formed)

pub see-requires-clause-declared : goal.see-requires-clause-declared
see-requires-clause-declared c =
    All-head (λ (p : Placed). p.link < length c.args.topo.now.links) c.in-Some.place c.next.new.self
    (subst (All (λ (p : Placed). p.link < length c.args.topo.now.links)) c.in-Some.ensures.steps c.loop-place.invariant.within)

pub see-requires-clause-link : goal.see-requires-clause-link
see-requires-clause-link c =
    subst (λ n. c.in-Some.place.link < n) (sym c.loop-place.invariant.count)
    (All-head (λ (p : Placed). p.link < length c.args.topo.now.links) c.in-Some.place c.next.new.self
    (subst (All (λ (p : Placed). p.link < length c.args.topo.now.links)) c.in-Some.ensures.steps c.loop-place.invariant.within))

pub loop-place-preserved : goal.loop-place-preserved
loop-place-preserved c =
    let steps = c.in-Some.ensures.steps in
    record {
      formed = All-tail (λ (p : Placed). IsWellFormed p.beat) c.in-Some.place c.next.new.self (subst (All (λ (p : Placed). IsWellFormed p.beat)) steps c.loop-place.invariant.formed);
      within = All-tail (λ (p : Placed). p.link < length c.args.topo.now.links) c.in-Some.place c.next.new.self
          (subst (All (λ (p : Placed). p.link < length c.args.topo.now.links)) steps c.loop-place.invariant.within);
      count = c.in_ok-see.ensures ∙ c.loop-place.invariant.count;
    }
