use Rattle.std.proofs.Common.{ap, ◌∙◌}
use Rattle.std.specs.Arc.{arc_value}
use Rattle.tl_capture.specs.Parts.{spanned}
use Rattle.tl_capture.specs.Present.{recorded}
use Rattle.tl_capture.specs.Ranges.{span_beats}
use Rattle.tl_capture.proofs.SpanLemmas.{cursor_pushed}
use Rattle.tl_capture.proofs.window_beats.cursors_in.Goals as goal

pub loop-link-preserved : goal.loop-link-preserved
loop-link-preserved c =
    let e = c.loop-link-item.result in
    cursor_pushed arc_value c.args.from c.args.to c.args.parts.now c.loop-link.link-index e c.loop-link-test.true c.loop-link-item.is c.loop-link.cursors.items c.push.new.self.items c.in-Some.cursor
    (spanned arc_value c.args.from c.args.to c.args.parts.now) (c.in-Some.ensures ∙ ap (λ f. span_beats c.args.from c.args.to (recorded e.0 f)) c.deref.ensures) c.in_ok-push-in-Some.ensures.items c.loop-link.invariant
