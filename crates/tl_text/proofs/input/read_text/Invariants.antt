use Rattle.std.proofs.Common.{◌≡◌, ◌≤◌, ◌+◌, length}
use Rattle.std.specs.Io.KnownBytes.{Consumes}
use Rattle.tl_text.proofs.input.read_text.Given as goal

abbrev pub invariant-loop : goal.invariant-loop
invariant-loop g l = record {
  quiet : g.I.ByteIn.failure_count l.input ≡ g.I.ByteIn.failure_count l.fn.input;
  reads : g.I.ByteIn.read_count l.input ≡ g.I.ByteIn.read_count l.fn.input + l.counter;
  taken : Consumes (g.I.ByteIn.remaining l.fn.input) (g.I.ByteIn.remaining l.input) l.all.items;
  each : l.counter ≤ length l.all.items;
  short : length l.all.items ≤ l.limit;
}
