use Rattle.std.proofs.Common.{◌≡◌, [], ◌∷◌, sym, ap, subst, ◌∙◌}
use Rattle.std.specs.List.{All, Contains}
use Rattle.std.proofs.lemmas.List.Elements.{All-head, All-tail}
use Rattle.tl_topology.specs.declared.LinkDecl.{LinkDecl}
use Rattle.tl_beats.specs.Beats.{IsWellFormed}
use Rattle.tl_beats.specs.declared.Placed.{Placed}
use Rattle.tl_midway.specs.LinkReadings.{IsFirst, Takes}
use Rattle.tl_midway.specs.Midway.{beginning_of}
use Rattle.tl_midway.proofs.LeadInLaws.{sought, sought_more, found_sure, of_one}
use Rattle.tl_midway.proofs.LinkReadingLaws.{first_known, first_stands, known_after, own_stands}
use Rattle.tl_midway.proofs.lead_ins.first_sure.Goals as goal

abbrev Formed : Placed → Type 0
Formed p = IsWellFormed p.beat

pub loop-at-init : goal.loop-at-init
loop-at-init c =
    let begins = c.into_iter-at-iterator.ensures.into_iter_gives in
    let readings = c.in_ok-readings.readings in
    let first = c.in_ok-readings.ensures.first in
    record {
      formed = subst (All Formed) (sym begins) c.requires.formed;
      linked = subst (All (λ (p : Placed). Contains (c.args.number ∷ []) p.link)) (sym begins) c.requires.linked;
      known = first_known c.args.law c.args.link.now readings first;
      number = c.in_ok-readings.ensures.number;
      on = λ m is. sought m (beginning_of c.args.law m) c.args.chan readings c.into_iter-at-iterator.result c.args.walk
          (first_stands c.args.law m readings (subst (λ (d : LinkDecl). IsFirst c.args.law d readings) (sym (ap m.links c.in_ok-readings.ensures.number ∙ is)) first)) begins;
    }

pub loop-at-preserved : goal.loop-at-preserved
loop-at-preserved c =
    let p : Placed = c.in-Some.at in
    let Linked : Placed → Type 0 = λ q. Contains (c.args.number ∷ []) q.link in
    let steps = c.in-Some.ensures.steps in
    let old = c.loop-at.readings in
    let new = c.take.new.self in
    let own : c.args.number ≡ p.link = of_one c.args.number p.link (All-head Linked p c.next.new.self (subst (All Linked) steps c.loop-at.invariant.linked)) in
    let owns : old.number ≡ p.link = c.loop-at.invariant.number ∙ own in
    record {
      formed = All-tail Formed p c.next.new.self (subst (All Formed) steps c.loop-at.invariant.formed);
      linked = All-tail Linked p c.next.new.self (subst (All Linked) steps c.loop-at.invariant.linked);
      known = known_after c.args.link.now c.by_fields-by_fields.result p.beat old new c.take.result c.take.ensures.takes c.loop-at.invariant.known;
      number = c.take.ensures.takes.number ∙ c.loop-at.invariant.number;
      on = λ m is. (let start = beginning_of c.args.law m in
          let declared : c.args.link.now ≡ m.links p.link = sym is ∙ ap m.links own in
          let takes : Takes (m.links p.link) start.by_fields p.beat old c.take.result new =
          subst (λ b. Takes (m.links p.link) b p.beat old c.take.result new) (c.by_fields-by_fields.ensures m)
          (subst (λ (d : LinkDecl). Takes d c.by_fields-by_fields.result p.beat old c.take.result new) declared c.take.ensures.takes) in
          sought_more m start c.args.chan p old c.loop-at.at-iterator c.next.new.self c.args.walk steps owns c.is_sure.result c.is_sure.ensures new c.if-is_sure.false
          (λ before stands. (own_stands m start before p old new c.take.result (sym owns) takes stands).1) (c.loop-at.invariant.on m is));
    }

pub returns-then-is_sure : goal.returns-then-is_sure
returns-then-is_sure c m is =
    let p : Placed = c.in-Some.at in
    let Linked : Placed → Type 0 = λ q. Contains (c.args.number ∷ []) q.link in
    let steps = c.in-Some.ensures.steps in
    let own : c.args.number ≡ p.link = of_one c.args.number p.link (All-head Linked p c.next.new.self (subst (All Linked) steps c.loop-at.invariant.linked)) in
    found_sure m (beginning_of c.args.law m) c.args.chan p c.loop-at.readings c.loop-at.at-iterator c.next.new.self c.args.walk steps (c.loop-at.invariant.number ∙ own) c.is_sure.result
    c.is_sure.ensures c.if-is_sure.true (c.loop-at.invariant.on m is)
