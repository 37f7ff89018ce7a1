use Rattle.std.proofs.Common.{◌≡◌, []}
use Rattle.std.specs.Prelude.{string_bytes}
use Rattle.tl_stream.specs.Feeds.{all_left}
use Rattle.tl_run.proofs.ComingLaws.{CameBy}
use Rattle.tl_run.proofs.coming.run_coming.Given as goal

abbrev pub invariant-loop-done : goal.invariant-loop-done
invariant-loop-done g l = record {
  setting : (g.S.Runner.so_far l.runner).setting ≡ (g.S.Runner.so_far l.fn.runner).setting;
  none : (g.S.Runner.so_far l.runner).boxes ≡ [];
  quiet : g.O.ByteOut.failure_count l.out ≡ g.O.ByteOut.failure_count l.fn.out;
  read : g.I.ByteIn.failure_count l.input ≡ g.I.ByteIn.failure_count l.fn.input;
  empty : string_bytes l.gathered ≡ [];
  came : CameBy g.S.Runner.noted (g.S.Runner.so_far l.fn.runner).setting (g.I.ByteIn.remaining l.fn.input) (all_left l.ahead (g.I.ByteIn.remaining l.input)) l.done (g.S.Runner.so_far l.runner).now (g.O.ByteOut.contents l.fn.out)
      (g.O.ByteOut.contents l.out) (string_bytes l.gathered);
}
