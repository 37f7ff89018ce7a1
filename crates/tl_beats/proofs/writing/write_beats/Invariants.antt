use Rattle.std.proofs.Common.{◌≡◌, map, take}
use Rattle.std.specs.List.{flat_map}
use Rattle.std.specs.Io.KnownBytes.{Appends}
use Rattle.tl_text.specs.Words.{ended}
use Rattle.tl_beats.specs.Text.{beat_text}
use Rattle.tl_beats.proofs.writing.write_beats.Given as goal

abbrev pub invariant-loop-beat : goal.invariant-loop-beat
invariant-loop-beat g l = record {
  quiet : g.O.ByteOut.failure_count l.out ≡ g.O.ByteOut.failure_count l.fn.out;
  front : Appends (g.O.ByteOut.contents l.fn.out) (g.O.ByteOut.contents l.out) (flat_map ended (map beat_text (take l.beat-index l.beats)));
}
