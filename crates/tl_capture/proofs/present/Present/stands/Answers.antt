use Rattle.std.proofs.Common.{◌≡◌, ◌≤◌, true≢false, List, Some, None, length, sym, ap, subst, ◌∙◌}
use Rattle.std.specs.Arc.{arc_value}
use Rattle.std.specs.Bool.{Decides}
use Rattle.tl_beats.specs.Fragments.{Frag}
use Rattle.tl_beats.specs.declared.Beat.{Beat}
use Rattle.tl_definitions.specs.Positions.{Recorded}
use Rattle.tl_capture.specs.Parts.{AreAlike}
use Rattle.tl_capture.specs.Present.{recorded, numbered, IsPresent}
use Rattle.tl_capture.proofs.MatchLemmas.{none_among, other_link, absent, alike_decides}
use Rattle.tl_capture.proofs.present.Present.stands.Goals as goal

pub returns-then-start-end : goal.returns-then-start-end
returns-then-start-end c =
    none_among c.args.links.now c.args.self.now c.args.from c.args.to (recorded c.args.link c.args.fragment.now) c.bounds-start.result.0 c.bounds-start.result.1
    (record { order = c.bounds-start.ensures.order; within = c.bounds-start.ensures.within; before = c.bounds-start.ensures.before; between = c.bounds-start.ensures.between; behind = c.bounds-start.ensures.behind })
    c.if-start-end.true

pub returns-then-not-has_link : goal.returns-then-not-has_link
returns-then-not-has_link c =
    other_link c.args.links.now c.args.self.now c.args.from c.args.to (recorded c.args.link c.args.fragment.now) c.bounds-start.result.0 c.bounds-start.result.1
    (record { order = c.bounds-start.ensures.order; within = c.bounds-start.ensures.within; before = c.bounds-start.ensures.before; between = c.bounds-start.ensures.between; behind = c.bounds-start.ensures.behind })
    c.if-start-end.false (λ h. true≢false (sym (c.has_link.ensures.1 h) ∙ c.if-not-has_link.true))

pub returns-in_default : goal.returns-in_default
returns-in_default c =
    let none : numbered c.args.link c.args.fragment.now.number c.args.self.now ≡ None = ap (λ n. numbered c.args.link n c.args.self.now) (sym c.number.ensures) ∙ sym c.in_default.ensures in
    absent c.args.links.now c.args.self.now c.args.from c.args.to (recorded c.args.link c.args.fragment.now) c.bounds-start.result.0 c.bounds-start.result.1
    (record { order = c.bounds-start.ensures.order; within = c.bounds-start.ensures.within; before = c.bounds-start.ensures.before; between = c.bounds-start.ensures.between; behind = c.bounds-start.ensures.behind })
    c.if-start-end.false none

pub returns : goal.returns
returns c =
    let g : Recorded = recorded c.args.link (arc_value c.in-Some.other.now) in
    let found : numbered c.args.link c.args.fragment.now.number c.args.self.now ≡ Some g = ap (λ n. numbered c.args.link n c.args.self.now) (sym c.number.ensures) ∙ sym c.in-Some.ensures in
    let here : c.beats.result.now ≡ c.args.fragment.now.beats = c.beats.ensures.exact in
    let there : c.beats-2.result.now ≡ g.beats = c.beats-2.ensures.exact ∙ ap (λ (f : Frag). f.beats) c.deref.ensures in
    let decides = subst (λ (bs : List Beat). Decides c.are_alike.result ((c.bounds-start.result.1 ≤ length bs) × AreAlike c.bounds-start.result.0 c.bounds-start.result.1 c.args.fragment.now.beats bs)) there
    (subst (λ (bs : List Beat). Decides c.are_alike.result ((c.bounds-start.result.1 ≤ length c.beats-2.result.now) × AreAlike c.bounds-start.result.0 c.bounds-start.result.1 bs c.beats-2.result.now)) here c.are_alike.ensures) in
    alike_decides c.args.links.now c.args.self.now c.args.from c.args.to (recorded c.args.link c.args.fragment.now) c.bounds-start.result.0 c.bounds-start.result.1
    (record { order = c.bounds-start.ensures.order; within = c.bounds-start.ensures.within; before = c.bounds-start.ensures.before; between = c.bounds-start.ensures.between; behind = c.bounds-start.ensures.behind })
    (subst IsPresent c.self.view_is c.self.invariant.0) g found c.are_alike.result (c.has_link.ensures.0 c.if-not-has_link.false) c.if-start-end.false decides
