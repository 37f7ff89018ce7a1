use Rattle.std.proofs.Common.{◌≤◌, true≢false, List, length, refl, sym, subst, ◌∙◌, arith}
use Rattle.std.specs.Arc.{arc_value}
use Rattle.tl_beats.specs.declared.Placed.{Placed}
use Rattle.tl_definitions.specs.Positions.{beats_of_all}
use Rattle.tl_capture.specs.Parts.{AreAmong}
use Rattle.tl_capture.specs.Present.{recorded}
use Rattle.tl_capture.specs.Ranges.{span_beats}
use Rattle.tl_capture.specs.Windows.{beats_within}
use Rattle.tl_capture.proofs.MatchLemmas.{no_decides}
use Rattle.tl_capture.proofs.PartLemmas.{among_more, all_among, not_among}
use Rattle.tl_capture.proofs.present.Present.stand.Goals as goal

pub returns-then-not-stands : goal.returns-then-not-stands
returns-then-not-stands c =
    let ps : List Placed = beats_within c.args.from c.args.to (beats_of_all c.args.links.now c.args.self.now) in
    let e = c.loop-link-item.result in
    no_decides (not_among arc_value c.args.from c.args.to ps c.args.parts.now c.loop-link.link-index e c.loop-link-test.true c.loop-link-item.is
    (λ one. true≢false (sym (c.stands.ensures.1 (subst (λ f. AreAmong (span_beats c.args.from c.args.to (recorded e.0 f)) ps) (sym c.deref.ensures) one)) ∙ c.if-not-stands.true)))

pub loop-link-preserved : goal.loop-link-preserved
loop-link-preserved c =
    let ps : List Placed = beats_within c.args.from c.args.to (beats_of_all c.args.links.now c.args.self.now) in
    let e = c.loop-link-item.result in
    among_more arc_value c.args.from c.args.to ps c.args.parts.now c.loop-link.link-index e c.loop-link-test.true c.loop-link-item.is c.loop-link.invariant
    (subst (λ f. AreAmong (span_beats c.args.from c.args.to (recorded e.0 f)) ps) c.deref.ensures (c.stands.ensures.0 c.if-not-stands.false))

pub returns : goal.returns
returns c =
    let ps : List Placed = beats_within c.args.from c.args.to (beats_of_all c.args.links.now c.args.self.now) in
    let past : length c.args.parts.now ≤ c.loop-link.link-index = omega arith in (
      (λ yes. all_among arc_value c.args.from c.args.to ps c.args.parts.now c.loop-link.link-index past c.loop-link.invariant),
      (λ all. refl),
    )
