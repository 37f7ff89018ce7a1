use Rattle.std.proofs.Common.{◌≡◌, ◌+◌}
use Rattle.tl_files.proofs.page.Page.fill.Given as goal

abbrev pub invariant-loop : goal.invariant-loop
invariant-loop g l = record {
  quiet : g.I.ByteIn.failure_count l.input ≡ g.I.ByteIn.failure_count l.fn.input;
  reads : g.I.ByteIn.read_count l.input ≡ g.I.ByteIn.read_count l.fn.input + l.counter;
}
