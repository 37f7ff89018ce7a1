use Rattle.std.proofs.Common.{sym, subst}
use Rattle.std.specs.List.{All}
use Rattle.std.proofs.lemmas.List.Elements.{All-head, All-tail}
use Rattle.tl_topology.specs.Regions.{areas_of}
use Rattle.tl_beats.specs.Beats.{IsWellFormed}
use Rattle.tl_beats.specs.declared.Placed.{Placed}
use Rattle.tl_midway.proofs.NamedLaws.{begun, one_more, done}
use Rattle.tl_midway.proofs.named.named_walk.Goals as goal

abbrev Formed : Placed → Type 0
Formed p = IsWellFormed p.beat

pub loop-at-init : goal.loop-at-init
loop-at-init c =
    let begins = c.into_iter-at-iterator.ensures.into_iter_gives in
    record {
      formed = subst (All Formed) (sym begins) c.requires.formed;
      state = c.new-state.ensures.formed;
      on = begun c.args.link.now c.args.exponent (areas_of c.args.regions.now) c.new-state.result c.args.rows.now.items c.into_iter-at-iterator.result c.args.walk begins c.new-state.ensures.stands;
    }

pub step-requires-clause-beat : goal.step-requires-clause-beat
step-requires-clause-beat c = All-head Formed c.in-Some.at c.next.new.self (subst (All Formed) c.in-Some.ensures.steps c.loop-at.invariant.formed)

pub loop-at-preserved : goal.loop-at-preserved
loop-at-preserved c =
    let steps = c.in-Some.ensures.steps in
    record {
      formed = All-tail Formed c.in-Some.at c.next.new.self (subst (All Formed) steps c.loop-at.invariant.formed);
      state = c.in_ok-step.ensures.formed;
      on = one_more c.args.link.now c.args.exponent (areas_of c.args.regions.now) c.loop-at.state c.step.new.self c.args.rows.now.items c.loop-at.rows.items c.step.new.rows.items c.in-Some.at
          c.loop-at.at-iterator c.next.new.self c.args.walk steps c.in_ok-step.ensures.rows c.in_ok-step.ensures.next c.loop-at.invariant.on;
    }

pub returns : goal.returns
returns c =
    done c.args.link.now c.args.exponent (areas_of c.args.regions.now) c.loop-at.state c.args.rows.now.items c.loop-at.rows.items c.loop-at.at-iterator c.args.walk c.in-None.ensures.steps.0 c.loop-at.invariant.on
