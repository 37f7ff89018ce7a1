use Rattle.std.proofs.Common.{◌≡◌, ◌++◌, Some, ap, ◌∙◌, rules}
use Rattle.std.specs.Prelude.{filter}
use Rattle.std.specs.Arc.{arc_value}
use Rattle.tl_capture.specs.Cursors.{all_left}
use Rattle.tl_capture.specs.Present.{recorded}
use Rattle.tl_capture.specs.Ranges.{meets, span_beats}
use Rattle.tl_capture.specs.Walk.{fragments_left}
use Rattle.tl_capture.proofs.SpanLemmas.{cursor_read}
use Rattle.tl_capture.proofs.WalkLemmas.{read_all, span_read}
use Rattle.tl_capture.proofs.ranges.Ranges.push_cursors.Goals as goal

pub loop-of-init : goal.loop-of-init
loop-of-init c =
    let left : fragments_left c.into_iter-of-iterator.result ≡ filter (meets c.args.link c.args.from (Some c.args.to)) c.args.self.now = search rules in
    ap (λ ps. all_left c.args.cursors.now.items ++ ps) (ap (read_all (span_beats c.args.from c.args.to)) left ∙ span_read c.args.from c.args.to c.args.link c.args.self.now c.on_link-of-items.ensures.kept)

pub loop-of-preserved : goal.loop-of-preserved
loop-of-preserved c =
    cursor_read c.args.from c.args.to (recorded c.in-Some.of (arc_value c.in-Some.fragment.now)) (fragments_left c.next.new.self) c.loop-of.cursors.items c.push.new.self.items c.in-Some-cursor_in.cursor _
    (c.in-Some-cursor_in.ensures ∙ ap (λ f. span_beats c.args.from c.args.to (recorded c.in-Some.of f)) c.deref.ensures) c.in_ok-push-in-Some-cursor_in.ensures.items (search rules)
