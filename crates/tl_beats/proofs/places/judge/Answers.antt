use Rattle.std.proofs.Common.{arith, rules, sym, ◌∙◌}
use Rattle.tl_beats.proofs.Growing.{more_kept}
use Rattle.tl_beats.proofs.places.judge.Goals as goal

pub loop-index-preserved : goal.loop-index-preserved
loop-index-preserved c = record {
  within = omega arith;
  kept = more_kept c.args.first c.args.last _ c.loop-index.index c.args.beats.now _ _ (omega arith) c.loop-index.invariant.kept (sym c.placed.ensures.exact ∙ c.in_ok-placed.was) (c.is_well_formed.ensures.0 (search rules));
}
