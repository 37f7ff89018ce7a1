use Rattle.std.proofs.Common.{arith}
use Rattle.tl_text.proofs.Joins.{joined_next}
use Rattle.tl_text.proofs.writing.line_of.Goals as goal

pub loop-index-preserved : goal.loop-index-preserved
loop-index-preserved c = record {
  within = omega arith;
  short = omega (arith, c.put_next.ensures.short, c.loop-index.invariant.short);
  joined = joined_next c.loop-index.index c.args.words.now _ c.loop-index.line.items c.put_next.new.line.items (omega arith) c.loop-index.invariant.joined c.put_next.ensures.first c.put_next.ensures.behind;
}
