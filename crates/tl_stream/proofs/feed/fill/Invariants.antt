use Rattle.std.proofs.Common.{◌≡◌, ◌≤◌, ◌+◌, length}
use Rattle.std.specs.Io.KnownBytes.{Keeps}
use Rattle.tl_stream.specs.Feeds.{all_left}
use Rattle.tl_stream.proofs.feed.fill.Given as goal

abbrev pub invariant-loop : goal.invariant-loop
invariant-loop g l = record {
  quiet : g.I.ByteIn.failure_count l.input ≡ g.I.ByteIn.failure_count l.fn.input;
  reads : g.I.ByteIn.read_count l.input ≡ g.I.ByteIn.read_count l.fn.input + l.counter;
  kept : Keeps (all_left l.fn.ahead (g.I.ByteIn.remaining l.fn.input)) (all_left l.ahead (g.I.ByteIn.remaining l.input));
  searched : l.searched ≤ length l.ahead;
  within : l.searched ≤ 8388608;
}
