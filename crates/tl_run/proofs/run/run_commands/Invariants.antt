use Rattle.std.proofs.Common.{◌≡◌, length}
use Rattle.std.specs.Prelude.{string_bytes}
use Rattle.tl_run.proofs.RunLaws.{Ran}
use Rattle.tl_run.proofs.run.run_commands.Given as goal

abbrev pub invariant-loop-read : goal.invariant-loop-read
invariant-loop-read g l = record {
  setting : (g.S.Runner.so_far l.runner).setting ≡ (g.S.Runner.so_far l.fn.runner).setting;
  quiet : g.O.ByteOut.failure_count l.out ≡ g.O.ByteOut.failure_count l.fn.out;
  ran : Ran g.S.Runner.noted (g.S.Runner.so_far l.fn.runner).setting l.script l.rest l.done (g.S.Runner.so_far l.fn.runner).boxes (g.S.Runner.so_far l.runner).boxes (g.S.Runner.so_far l.runner).now (g.O.ByteOut.contents l.fn.out) (g.O.ByteOut.contents l.out) (string_bytes l.gathered);
}

abbrev pub decreases-loop-read : goal.decreases-loop-read
decreases-loop-read g l = length l.rest
