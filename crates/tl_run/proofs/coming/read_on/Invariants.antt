use Rattle.std.proofs.Common.{◌≡◌}
use Rattle.std.specs.Io.KnownBytes.{Keeps}
use Rattle.tl_stream.specs.Feeds.{all_left}
use Rattle.tl_run.proofs.coming.read_on.Given as goal

abbrev pub invariant-loop : goal.invariant-loop
invariant-loop g l = record {
  quiet : g.I.ByteIn.failure_count l.input ≡ g.I.ByteIn.failure_count l.fn.input;
  kept : Keeps (all_left l.fn.ahead (g.I.ByteIn.remaining l.fn.input)) (all_left l.ahead (g.I.ByteIn.remaining l.input));
}
