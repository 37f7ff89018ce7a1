use Rattle.std.proofs.Common.{◌≡◌, ◌∷◌, rules}
use Rattle.tl_state.specs.BlockWalk.{blocks_left}
use Rattle.tl_state.proofs.BlockMapLaws.{goes_on}
use Rattle.tl_state.proofs.block_map.BlockMap.rebuilt.Goals as goal

pub loop-block-preserved : goal.loop-block-preserved
loop-block-preserved g c =
    let left : blocks_left c.loop-block.block-iterator ≡ c.in-Some.block ∷ blocks_left c.next.new.self = search rules in
    (tt, tt, goes_on c.args.self.now c.loop-block.other c.assign.new.self (blocks_left c.loop-block.block-iterator) (blocks_left c.next.new.self) c.in-Some.block c.get.result left c.get.ensures c.in_ok-assign.ensures.ok c.loop-block.invariant.2)
