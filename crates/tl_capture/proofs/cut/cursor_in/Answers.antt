use Rattle.std.proofs.Common.{◌≡◌, ◌+◌, sym, ap, ◌∙◌}
use Rattle.std.specs.Prelude.{slice_range}
use Rattle.tl_definitions.specs.Positions.{placed_from}
use Rattle.tl_capture.specs.Present.{recorded}
use Rattle.tl_capture.specs.Ranges.{span_beats}
use Rattle.tl_capture.proofs.CutLemmas.{AreBounds}
use Rattle.tl_capture.proofs.SpanLemmas.{span_is, cursor_is}
use Rattle.tl_capture.proofs.cut.cursor_in.Goals as goal

pub returns : goal.returns
returns c =
    let start = c.bounds-start.result.0 in
    let end = c.bounds-start.result.1 in
    let bounds : AreBounds c.args.fragment.now.beats c.args.from c.args.to start end =
    record { order = c.bounds-start.ensures.order; within = c.bounds-start.ensures.within; before = c.bounds-start.ensures.before; between = c.bounds-start.ensures.between; behind = c.bounds-start.ensures.behind } in
    let same : span_beats c.args.from c.args.to (recorded c.args.link c.args.fragment.now) ≡ placed_from c.args.link c.number.result (start + 2) (slice_range c.beats-beats.result.now start end) =
    span_is c.args.from c.args.to c.args.link c.args.fragment.now.number start end c.args.fragment.now.beats bounds
    ∙ ap (λ n. placed_from c.args.link n (start + 2) (slice_range c.args.fragment.now.beats start end)) (sym c.number.ensures)
    ∙ ap (λ bs. placed_from c.args.link c.number.result (start + 2) (slice_range bs start end)) (sym c.beats-beats.ensures.exact) in
    cursor_is c.new.result c.args.link c.number.result (start + 2) (slice_range c.beats-beats.result.now start end) (span_beats c.args.from c.args.to (recorded c.args.link c.args.fragment.now)) same c.new.ensures
