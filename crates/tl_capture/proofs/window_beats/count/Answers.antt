use Rattle.std.proofs.Common.{◌-◌, ap, arith}
use Rattle.std.specs.Arc.{arc_value}
use Rattle.tl_beats.specs.Fragments.{Frag}
use Rattle.tl_capture.specs.Present.{recorded}
use Rattle.tl_capture.proofs.MatchLemmas.{span_count}
use Rattle.tl_capture.proofs.PartLemmas.{counted_more}
use Rattle.tl_capture.proofs.window_beats.count.Goals as goal

pub loop-fragment-preserved : goal.loop-fragment-preserved
loop-fragment-preserved c =
    let e = c.loop-fragment-item.result in
    let many = span_count (recorded e.0 (arc_value e.1)) c.deref.result.now.beats c.args.from c.args.to c.bounds-start.result.0 c.bounds-start.result.1 (ap (λ (f : Frag). f.beats) c.deref.ensures)
    (record { order = c.bounds-start.ensures.order; within = c.bounds-start.ensures.within; before = c.bounds-start.ensures.before; between = c.bounds-start.ensures.between; behind = c.bounds-start.ensures.behind }) in (
      counted_more arc_value c.args.from c.args.to c.args.parts.now c.loop-fragment.fragment-index c.loop-fragment.count (c.bounds-start.result.1 - c.bounds-start.result.0) e
          c.loop-fragment-test.true c.loop-fragment-item.is many c.loop-fragment.invariant.0,
      omega arith,
    )
