use Rattle.std.proofs.Common.{take, arith}
use Rattle.tl_text.proofs.Writes.{fell}
use Rattle.tl_beats.proofs.TextParts.{beats_parts, beats_text}
use Rattle.tl_beats.proofs.writing.write_beats.Goals as goal

pub returns-in_err-write_beat : goal.returns-in_err-write_beat
returns-in_err-write_beat g c =
    let contents = g.O.ByteOut.contents in
    let count = g.O.ByteOut.failure_count in
    fell contents count (beats_text (take c.loop-beat.beat-index c.args.beats.now)) _ _ _ c.args.out.now c.loop-beat.out c.write_beat.new.out c.from_residual.result c.from_residual.ensures.0
    (beats_parts c.loop-beat.beat-index c.args.beats.now _ (omega arith)) (c.loop-beat.invariant.quiet, c.loop-beat.invariant.front) c.in_err-write_beat.ensures
