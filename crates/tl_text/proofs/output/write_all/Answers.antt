use Rattle.std.proofs.Common.{arith}
use Rattle.std.proofs.lemmas.Grind.{common_steps}
use Rattle.tl_text.proofs.Writes.{wrote_more}
use Rattle.tl_text.proofs.output.write_all.Goals as goal

pub loop-done-preserved : goal.loop-done-preserved
loop-done-preserved g c = record {
  quiet = grind (arith, common_steps, c.in_ok-done.ensures.ok);
  short = omega (arith, c.in_ok-done.ensures.bound);
  front = wrote_more _ _ _ c.loop-done.done _ c.args.bytes.now c.loop-done.invariant.front c.in_ok-done.ensures.wrote;
}
