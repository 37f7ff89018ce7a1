use Rattle.std.proofs.Common.{◌≡◌, ◌≤◌, ◌-◌, length, take}
use Rattle.std.specs.Io.KnownBytes.{Appends}
use Rattle.tl_text.proofs.output.write_all.Given as goal

abbrev pub invariant-loop-done : goal.invariant-loop-done
invariant-loop-done g l = record {
  quiet : g.O.ByteOut.failure_count l.out ≡ g.O.ByteOut.failure_count l.fn.out;
  short : l.done ≤ length l.bytes;
  front : Appends (g.O.ByteOut.contents l.fn.out) (g.O.ByteOut.contents l.out) (take l.done l.bytes);
}

abbrev pub decreases-loop-done : goal.decreases-loop-done
decreases-loop-done g l = length l.bytes - l.done
