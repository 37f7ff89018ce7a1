use Rattle.std.proofs.Common.{◌≡◌, ◌++◌, Some, ap, ◌∙◌, rules}
use Rattle.std.specs.Prelude.{filter}
use Rattle.tl_capture.specs.Ranges.{meets, span_beats}
use Rattle.tl_capture.specs.Walk.{fragments_left}
use Rattle.tl_capture.proofs.WalkLemmas.{read_all, span_read}
use Rattle.tl_capture.proofs.ranges.Ranges.push_link.Goals as goal

pub loop-of-init : goal.loop-of-init
loop-of-init c =
    let left : fragments_left c.into_iter-of-iterator.result ≡ filter (meets c.args.link c.args.from (Some c.args.to)) c.args.self.now = search rules in
    ap (λ ps. c.args.beats.now.items ++ ps) (ap (read_all (span_beats c.args.from c.args.to)) left ∙ span_read c.args.from c.args.to c.args.link c.args.self.now c.on_link-of-items.ensures.kept)
