use Rattle.std.proofs.Common.{ℕ, ◌+◌, ◌++◌, drop, ap, ◌∙◌}
use Rattle.tl_beats.specs.declared.watch.Watch.{Watch}
use Rattle.tl_check.specs.Captured.{watch_capture, watch_captures}
use Rattle.tl_check.proofs.ScratchLaws.{next_capture, one_watch_less, no_watch_left}
use Rattle.tl_check.proofs.watching.watches_rows.Goals as goal

pub loop-named-preserved : goal.loop-named-preserved
loop-named-preserved c row =
    let topo = c.args.topo.now in
    let fs = c.args.present.now in
    let watches = c.args.watches.now in
    let k = c.loop-named.named-index in
    let e : ℕ × Watch = c.named-item.result in
    next_capture (watch_capture topo fs e) (watch_captures topo fs (drop (k + 1) watches)) c.loop-named.rows.items c.in_ok-found.found.items c.extend_from_slice.new.self.items
    (c.in_ok-extend_from_slice.ensures.items ∙ ap (λ found. c.loop-named.rows.items ++ found) c.deref.ensures.value) c.in_ok-found.ensures row _
    (one_watch_less topo fs watches k c.loop-named.rows.items e c.named-item.is c.loop-named-test.true row _ (c.loop-named.invariant row))

pub returns : goal.returns
returns c row =
    no_watch_left c.args.topo.now c.args.present.now c.args.watches.now c.loop-named.named-index c.loop-named.rows.items c.loop-named-test.false row _ (c.loop-named.invariant row)
