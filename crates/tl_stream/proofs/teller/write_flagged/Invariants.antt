use Rattle.std.proofs.Common.{◌≡◌}
use Rattle.tl_stream.proofs.teller.write_flagged.Given as goal

abbrev pub invariant-loop-row : goal.invariant-loop-row
invariant-loop-row g l = g.O.ByteOut.failure_count l.out ≡ g.O.ByteOut.failure_count l.fn.out
