use Rattle.std.proofs.Common.{sym, ap, subst, ◌∙◌}
use Rattle.std.specs.List.{All, Contains}
use Rattle.std.specs.Option.{option_copied}
use Rattle.std.proofs.lemmas.List.Elements.{All-head, All-tail}
use Rattle.tl_topology.specs.Regions.{areas_of}
use Rattle.tl_beats.specs.Beats.{IsWellFormed}
use Rattle.tl_beats.specs.declared.Placed.{Placed}
use Rattle.tl_definitions.specs.Managers.{declared_links, manager_at}
use Rattle.tl_definitions.specs.Positions.{clients_of}
use Rattle.tl_definitions.specs.Rules.{Manager}
use Rattle.tl_midway.specs.declared.judged.Judged.{Judged}
use Rattle.tl_midway.proofs.JudgedLaws as judged
use Rattle.tl_midway.proofs.PlaceLaws.{declared}
use Rattle.tl_midway.proofs.WalkLaws.{still_of, has_link, below, serves}
use Rattle.tl_midway.proofs.counting.counted_walk.Goals as goal

abbrev Formed : Placed → Type 0
Formed p = IsWellFormed p.beat

pub loop-at-init : goal.loop-at-init
loop-at-init c =
    let m : Manager = manager_at c.args.topo.now c.args.judged.now.manager (areas_of c.args.regions.now) in
    let begins = c.into_iter-at-iterator.ensures.into_iter_gives in
    record {
      formed = subst (All Formed) (sym begins) c.requires.formed;
      linked = subst (All (λ (p : Placed). Contains (clients_of c.args.judged.now.manager (declared_links c.args.topo.now)) p.link)) (sym begins) c.requires.linked;
      is_of = c.requires.judged;
      amid = judged.begun m c.args.judged.now c.into_iter-at-iterator.result c.args.walk begins;
      counted = judged.count_begun m c.args.judged.now c.args.counts.now c.into_iter-at-iterator.result c.args.walk begins;
      manager = λ i. c.args.judged.now.manager;
      law = λ i. c.args.counts.now.law;
      by_rule = λ i. c.args.counts.now.by_rule;
    }

pub unwrap-link-requires : goal.unwrap-link-requires
unwrap-link-requires c =
    let Linked : Placed → Type 0 = λ p. Contains (clients_of c.args.judged.now.manager (declared_links c.args.topo.now)) p.link in
    c.link.ensures.found.1
    (below c.args.topo.now c.args.judged.now.manager c.in-Some.at.link (All-head Linked c.in-Some.at c.next.new.self (subst (All Linked) c.in-Some.ensures.steps c.loop-at.invariant.linked)))

pub add-requires-clause-beat : goal.add-requires-clause-beat
add-requires-clause-beat c = All-head Formed c.in-Some.at c.next.new.self (subst (All Formed) c.in-Some.ensures.steps c.loop-at.invariant.formed)

pub add-requires-clause-own : goal.add-requires-clause-own
add-requires-clause-own c =
    let Linked : Placed → Type 0 = λ p. Contains (clients_of c.args.judged.now.manager (declared_links c.args.topo.now)) p.link in
    let m : Manager = manager_at c.args.topo.now c.args.judged.now.manager (areas_of c.args.regions.now) in
    let is = c.loop-at.invariant.is_of in
    has_link m is.start c.loop-at.judged.state c.in-Some.at.link is.before is.stands
    (All-head Linked c.in-Some.at c.next.new.self (subst (All Linked) c.in-Some.ensures.steps c.loop-at.invariant.linked))

pub step-requires-clause-beat : goal.step-requires-clause-beat
step-requires-clause-beat c = All-head Formed c.in-Some.at c.next.new.self (subst (All Formed) c.in-Some.ensures.steps c.loop-at.invariant.formed)

pub step-requires-clause-own : goal.step-requires-clause-own
step-requires-clause-own c =
    let Linked : Placed → Type 0 = λ p. Contains (clients_of c.args.judged.now.manager (declared_links c.args.topo.now)) p.link in
    let m : Manager = manager_at c.args.topo.now c.args.judged.now.manager (areas_of c.args.regions.now) in
    let is = c.loop-at.invariant.is_of in
    has_link m is.start c.loop-at.judged.state c.in-Some.at.link is.before is.stands
    (All-head Linked c.in-Some.at c.next.new.self (subst (All Linked) c.in-Some.ensures.steps c.loop-at.invariant.linked))

pub loop-at-preserved : goal.loop-at-preserved
loop-at-preserved c =
    let topo = c.args.topo.now in
    let entry : Judged = c.args.judged.now in
    let areas = areas_of c.args.regions.now in
    let m : Manager = manager_at topo entry.manager areas in
    let p : Placed = c.in-Some.at in
    let Linked : Placed → Type 0 = λ q. Contains (clients_of entry.manager (declared_links topo)) q.link in
    let steps = c.in-Some.ensures.steps in
    let known = declared topo p.link c.unwrap-link.result.now (sym (ap option_copied c.unwrap-link.ensures) ∙ c.link.ensures.exact) in
    let own = serves topo entry.manager p.link c.unwrap-link.result.now areas known in
    let old : Judged = c.loop-at.judged in
    let new : Judged = record old { state = c.step.new.self; rows = c.step.new.rows } in
    record {
      formed = All-tail Formed p c.next.new.self (subst (All Formed) steps c.loop-at.invariant.formed);
      linked = All-tail Linked p c.next.new.self (subst (All Linked) steps c.loop-at.invariant.linked);
      is_of = still_of m old.state c.step.new.self p c.in_ok-step.ensures.known (λ start before stands. c.in_ok-step.ensures.next m start before stands own) c.loop-at.invariant.is_of;
      amid = judged.one_more m old new p c.in_ok-step.ensures.known (λ start before stands. c.in_ok-step.ensures.rows m start before stands own)
          (λ start before stands. c.in_ok-step.ensures.next m start before stands own) entry c.loop-at.at-iterator c.next.new.self c.args.walk steps c.loop-at.invariant.amid;
      counted = judged.count_more m old new p c.in_ok-step.ensures.known (λ start before stands. c.in_ok-step.ensures.rows m start before stands own)
          (λ start before stands. c.in_ok-step.ensures.next m start before stands own) entry c.args.counts.now c.loop-at.counts c.add.new.self c.loop-at.at-iterator c.next.new.self c.args.walk steps
          (λ start before n stands has. c.add.ensures.counts m start before stands own n has) c.loop-at.invariant.counted;
      manager = c.loop-at.invariant.manager;
      law = c.add.ensures.law ∙ c.loop-at.invariant.law;
      by_rule = c.add.ensures.by_rule ∙ c.loop-at.invariant.by_rule;
    }

pub returns-clause-judged : goal.returns-clause-judged
returns-clause-judged c =
    judged.done (manager_at c.args.topo.now c.args.judged.now.manager (areas_of c.args.regions.now)) c.args.judged.now c.loop-at.judged c.loop-at.at-iterator c.args.walk
    c.in-None.ensures.steps.0 c.loop-at.invariant.amid

pub returns-clause-counts : goal.returns-clause-counts
returns-clause-counts c =
    judged.count_done (manager_at c.args.topo.now c.args.judged.now.manager (areas_of c.args.regions.now)) c.args.judged.now c.loop-at.judged c.args.counts.now c.loop-at.counts c.loop-at.at-iterator c.args.walk
    c.in-None.ensures.steps.0 c.loop-at.invariant.counted
