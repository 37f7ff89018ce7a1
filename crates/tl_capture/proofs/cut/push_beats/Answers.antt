use Rattle.std.proofs.Common.{◌≡◌, ◌++◌, ◌<◌, ◌≤◌, ◌+◌, false, refl, length, take, sym, ap, ◌∙◌, arith, append-nil}
use Rattle.tl_tables.specs.declared.Chan.TheVariants as chan
use Rattle.tl_beats.specs.declared.Beat.{Beat}
use Rattle.tl_definitions.specs.Positions.{Recorded, placed_beats}
use Rattle.tl_capture.specs.Present.{recorded}
use Rattle.tl_capture.specs.Windows.{beats_within}
use Rattle.tl_capture.proofs.CutLemmas.{front_of_fragment, all_of_fragment, next_of_fragment}
use Rattle.tl_capture.proofs.cut.push_beats.Goals as goal

-- What an index past the last beat leads to.
abbrev no_beat : Beat
no_beat = record { cycle = 0; chan = chan.A; opcode = 0; param = 0; size = 0; source = 0; sink = 0; address = 0; mask = 0; denied = false; corrupt = false }

pub loop-index-init : goal.loop-index-init
loop-index-init c =
    let f : Recorded = recorded c.args.link c.args.fragment.now in
    let low : c.bounds-start.result.0 ≤ length f.beats = omega (arith, c.bounds-start.ensures.order, c.bounds-start.ensures.within) in
    sym (ap (λ ps. c.args.beats.now.items ++ ps) (front_of_fragment f c.args.from c.args.to c.bounds-start.result.0 low c.bounds-start.ensures.before) ∙ append-nil c.args.beats.now.items)

pub loop-index-preserved : goal.loop-index-preserved
loop-index-preserved c =
    let f : Recorded = recorded c.args.link c.args.fragment.now in
    let high : c.loop-index.index < length f.beats = omega (arith, c.bounds-start.ensures.within, c.loop-index-test.true) in
    next_of_fragment f c.args.from c.args.to c.loop-index.index (c.loop-index.index + 2) c.number-number.result c.beats-own.result.now no_beat c.loop-index.beats.items c.push.new.self.items c.args.beats.now.items
    high refl c.number-number.ensures c.beats-own.ensures.exact (c.bounds-start.ensures.between c.loop-index.index no_beat c.loop-index.auto.index c.loop-index-test.true)
    c.loop-index.invariant c.in_ok-push.ensures.items

pub returns : goal.returns
returns c =
    let f : Recorded = recorded c.args.link c.args.fragment.now in
    let at : c.loop-index.index ≡ c.bounds-start.result.1 = omega (arith, c.loop-index.auto.index-end c.bounds-start.ensures.order, c.loop-index-test.false) in
    c.loop-index.invariant ∙ ap (λ n. c.args.beats.now.items ++ beats_within c.args.from c.args.to (take n (placed_beats f))) at
    ∙ ap (λ ps. c.args.beats.now.items ++ ps) (all_of_fragment f c.args.from c.args.to c.bounds-start.result.1 c.bounds-start.ensures.behind)
