use Rattle.std.proofs.Common.{refl, rules}
use Rattle.tl_state.specs.BlockWalk.{blocks_left}
use Rattle.tl_midway.proofs.SureLaws.{at_first}
use Rattle.tl_midway.proofs.known_bounds.set_sure.Goals as goal

pub loop-block-init : goal.loop-block-init
loop-block-init c = (tt, tt, λ block held none. refl, at_first c.args.sure.now c.args.loose.now (blocks_left c.into_iter-block-iterator.result) (search rules))
