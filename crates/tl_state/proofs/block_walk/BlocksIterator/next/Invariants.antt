use Rattle.std.proofs.Common.{◌≡◌, length}
use Rattle.tl_state.specs.BlockWalk.{blocks_left}
use Rattle.tl_state.proofs.block_walk.BlocksIterator.next.Given as goal

abbrev pub invariant-loop-place : goal.invariant-loop-place
invariant-loop-place g l = blocks_left l.initial.self ≡ blocks_left l.self

abbrev pub decreases-loop-place : goal.decreases-loop-place
decreases-loop-place g l = length l.self.near.now
