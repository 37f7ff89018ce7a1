use Rattle.std.proofs.Common.{◌++◌, refl, sym, ap, subst}
use Rattle.std.specs.List.{All}
use Rattle.std.proofs.lemmas.List.Elements.{All-head, All-tail}
use Rattle.tl_topology.specs.Regions.{areas_of}
use Rattle.tl_beats.specs.Beats.{IsWellFormed}
use Rattle.tl_beats.specs.declared.Placed.{Placed}
use Rattle.tl_definitions.specs.LinkPasses.{link_next}
use Rattle.tl_definitions.specs.Rules.{Manager}
use Rattle.tl_check.specs.Apart.{one_link, opening, judged_rows}
use Rattle.tl_check.proofs.PassLaws.{rows_on, rows_end}
use Rattle.tl_check.proofs.apart.add_link.Goals as goal

pub loop-at-init : goal.loop-at-init
loop-at-init c =
    let m : Manager = one_link c.args.decl.now c.args.exponent (areas_of c.args.regions.now) in
    let begins = c.into_iter-at-iterator.ensures.into_iter_gives in
    record {
      formed = subst (All (λ (p : Placed). IsWellFormed p.beat)) (sym begins) c.requires.formed;
      heads = c.new-state.ensures.formed;
      judged = (opening c.args.exponent, c.new-state.ensures.shows c.args.exponent, ap (λ ps. c.args.rows.now.items ++ judged_rows m ps) begins);
    }

pub loop-at-preserved : goal.loop-at-preserved
loop-at-preserved c =
    let m : Manager = one_link c.args.decl.now c.args.exponent (areas_of c.args.regions.now) in
    let p : Placed = c.in-Some.at in
    let steps = c.in-Some.ensures.steps in
    let known = c.loop-at.invariant.judged in
    let s = known.0 in
    record {
      formed = All-tail (λ (q : Placed). IsWellFormed q.beat) p c.next.new.self (subst (All (λ (q : Placed). IsWellFormed q.beat)) steps c.loop-at.invariant.formed);
      heads = c.in_ok-step.ensures.formed;
      judged = (
        link_next m s p,
        c.in_ok-step.ensures.next s known.1,
        rows_on m s (link_next m s p) c.loop-at.at-iterator c.next.new.self p c.loop-at.rows.items c.step.new.rows.items _ steps (c.in_ok-step.ensures.rows s known.1) refl known.2,
      );
    }

pub returns : goal.returns
returns c =
    let m : Manager = one_link c.args.decl.now c.args.exponent (areas_of c.args.regions.now) in
    let known = c.loop-at.invariant.judged in
    rows_end m known.0 c.loop-at.at-iterator c.loop-at.rows.items _ c.in-None.ensures.steps.0 known.2

pub step-requires-clause-beat : goal.step-requires-clause-beat
step-requires-clause-beat c = All-head (λ (p : Placed). IsWellFormed p.beat) c.in-Some.at c.next.new.self (subst (All (λ (p : Placed). IsWellFormed p.beat)) c.in-Some.ensures.steps c.loop-at.invariant.formed)
