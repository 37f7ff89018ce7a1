use Rattle.std.proofs.Common.{◌≡◌, ◌+◌, ◌∷◌, Some, length, sym, ap, ◌∙◌, rules, arith}
use Rattle.std.specs.Prelude.{filter}
use Rattle.std.specs.Arc.{arc_value}
use Rattle.tl_beats.specs.Fragments.{Frag}
use Rattle.tl_definitions.specs.Positions.{Recorded, all_placed}
use Rattle.tl_capture.specs.Present.{recorded, of_link}
use Rattle.tl_capture.specs.Ranges.{meets, span_beats}
use Rattle.tl_capture.specs.Walk.{fragments_left}
use Rattle.tl_capture.specs.Windows.{beats_within}
use Rattle.tl_capture.proofs.MatchLemmas.{span_count}
use Rattle.tl_capture.proofs.WalkLemmas.{read_all, span_read, one_more}
use Rattle.tl_capture.proofs.ranges.Ranges.less.Goals as goal

pub loop-fragment-init : goal.loop-fragment-init
loop-fragment-init c =
    let left : fragments_left c.into_iter-fragment-iterator.result ≡ filter (meets c.args.link c.args.from (Some c.args.to)) c.args.self.now = search rules in
    ap (λ ps. c.args.count + length ps) (sym (ap (read_all (span_beats c.args.from c.args.to)) left ∙ span_read c.args.from c.args.to c.args.link c.args.self.now c.on_link-fragment-items.ensures.kept))

pub returns-then-left-own : goal.returns-then-left-own
returns-then-left-own c =
    let f : Recorded = recorded c.in-Some.field-0-0 (arc_value c.in-Some.fragment.now) in
    let own = span_count f c.deref.result.now.beats c.args.from c.args.to c.bounds-start.result.0 c.bounds-start.result.1 (ap (λ (g : Frag). g.beats) c.deref.ensures)
    (record { order = c.bounds-start.ensures.order; within = c.bounds-start.ensures.within; before = c.bounds-start.ensures.before; between = c.bounds-start.ensures.between; behind = c.bounds-start.ensures.behind }) in
    let more = one_more c.args.from c.args.to f (fragments_left c.next.new.self) _ own in
    let known : c.loop-fragment.left + length (beats_within c.args.from c.args.to (all_placed (of_link c.args.link c.args.self.now)))
    ≡ c.args.count + length (read_all (span_beats c.args.from c.args.to) (f ∷ fragments_left c.next.new.self)) = search rules in
    let less = c.if-left-own.true in
    omega arith

pub loop-fragment-preserved : goal.loop-fragment-preserved
loop-fragment-preserved c =
    let f : Recorded = recorded c.in-Some.field-0-0 (arc_value c.in-Some.fragment.now) in
    let own = span_count f c.deref.result.now.beats c.args.from c.args.to c.bounds-start.result.0 c.bounds-start.result.1 (ap (λ (g : Frag). g.beats) c.deref.ensures)
    (record { order = c.bounds-start.ensures.order; within = c.bounds-start.ensures.within; before = c.bounds-start.ensures.before; between = c.bounds-start.ensures.between; behind = c.bounds-start.ensures.behind }) in
    let more = one_more c.args.from c.args.to f (fragments_left c.next.new.self) _ own in
    let known : c.loop-fragment.left + length (beats_within c.args.from c.args.to (all_placed (of_link c.args.link c.args.self.now)))
    ≡ c.args.count + length (read_all (span_beats c.args.from c.args.to) (f ∷ fragments_left c.next.new.self)) = search rules in
    let enough = c.if-left-own.false in
    omega arith
