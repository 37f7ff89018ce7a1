use Rattle.std.proofs.Common.{◌<◌, length, sym, subst, ◌∙◌}
use Rattle.std.specs.List.{All}
use Rattle.std.proofs.lemmas.List.Elements.{All-head, All-tail}
use Rattle.tl_beats.specs.Beats.{IsWellFormed}
use Rattle.tl_beats.specs.declared.Placed.{Placed}
use Rattle.tl_show.proofs.trail.see.Goals as goal

pub loop-place-init : goal.loop-place-init
loop-place-init c =
    let begins = c.into_iter-place-iterator.ensures.into_iter_gives in
    record {
      formed = subst (All (λ (p : Placed). IsWellFormed p.beat)) (sym begins) c.requires.formed;
      within = subst (All (λ (p : Placed). p.link < length c.args.topo.now.links)) (sym begins) c.requires.within;
      count = c.requires.count;
    }

pub tell_beat-requires-clause-beat : goal.tell_beat-requires-clause-beat
tell_beat-requires-clause-beat c =
    All-head (λ (p : Placed). IsWellFormed p.beat) c.in-Some.place c.next.new.self (subst (All (λ (p : Placed). IsWellFormed p.beat)) c.in-Some.ensures.steps c.loop-place.invariant.formed)

pub tell_beat-requires-clause-declared : goal.tell_beat-requires-clause-declared
tell_beat-requires-clause-declared c =
    All-head (λ (p : Placed). p.link < length c.args.topo.now.links) c.in-Some.place c.next.new.self
    (subst (All (λ (p : Placed). p.link < length c.args.topo.now.links)) c.in-Some.ensures.steps c.loop-place.invariant.within)

pub tell_beat-requires-clause-link : goal.tell_beat-requires-clause-link
tell_beat-requires-clause-link c =
    subst (λ n. c.in-Some.place.link < n) (sym c.loop-place.invariant.count)
    (All-head (λ (p : Placed). p.link < length c.args.topo.now.links) c.in-Some.place c.next.new.self
    (subst (All (λ (p : Placed). p.link < length c.args.topo.now.links)) c.in-Some.ensures.steps c.loop-place.invariant.within))

pub step-requires-clause-beat : goal.step-requires-clause-beat
step-requires-clause-beat c =
    All-head (λ (p : Placed). IsWellFormed p.beat) c.in-Some.place c.next.new.self (subst (All (λ (p : Placed). IsWellFormed p.beat)) c.in-Some.ensures.steps c.loop-place.invariant.formed)

pub step-requires-clause-declared : goal.step-requires-clause-declared
step-requires-clause-declared c =
    All-head (λ (p : Placed). p.link < length c.args.topo.now.links) c.in-Some.place c.next.new.self
    (subst (All (λ (p : Placed). p.link < length c.args.topo.now.links)) c.in-Some.ensures.steps c.loop-place.invariant.within)

pub step-requires-clause-link : goal.step-requires-clause-link
step-requires-clause-link c =
    subst (λ n. c.in-Some.place.link < n) (sym c.loop-place.invariant.count)
    (All-head (λ (p : Placed). p.link < length c.args.topo.now.links) c.in-Some.place c.next.new.self
    (subst (All (λ (p : Placed). p.link < length c.args.topo.now.links)) c.in-Some.ensures.steps c.loop-place.invariant.within))

pub loop-place-preserved : goal.loop-place-preserved
loop-place-preserved c =
    let steps = c.in-Some.ensures.steps in
    record {
      formed = All-tail (λ (p : Placed). IsWellFormed p.beat) c.in-Some.place c.next.new.self (subst (All (λ (p : Placed). IsWellFormed p.beat)) steps c.loop-place.invariant.formed);
      within = All-tail (λ (p : Placed). p.link < length c.args.topo.now.links) c.in-Some.place c.next.new.self
          (subst (All (λ (p : Placed). p.link < length c.args.topo.now.links)) steps c.loop-place.invariant.within);
      count = c.in_ok-step.ensures.count ∙ c.loop-place.invariant.count;
    }
