use Rattle.std.proofs.Common.{◌≡◌, ◌<◌, ◌^◌}
use Rattle.tl_stream.proofs.inputs.stream_input.Given as goal

abbrev pub invariant-loop : goal.invariant-loop
invariant-loop g l = record {
  out : g.O.ByteOut.failure_count l.out ≡ g.O.ByteOut.failure_count l.fn.out;
  err : g.E.ByteOut.failure_count l.err < 2 ^ 63;
}
