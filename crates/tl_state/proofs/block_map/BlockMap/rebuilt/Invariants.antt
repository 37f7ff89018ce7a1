use Rattle.std.proofs.Common.{◌≡◌, ℕ, false}
use Rattle.tl_state.specs.BlockMap.{value_at, is_among}
use Rattle.tl_state.specs.BlockWalk.{blocks_left}
use Rattle.tl_state.proofs.block_map.BlockMap.rebuilt.Given as goal

-- each block that is not left has its value
abbrev pub invariant-loop-block : goal.invariant-loop-block
invariant-loop-block g l =
    (goal.iterator-loop-block g).can_next l.block-iterator ×
    (goal.iterator-loop-block g).is_finite l.block-iterator ×
    ((block : ℕ) → is_among block (blocks_left l.block-iterator) ≡ false → value_at l.self block ≡ value_at l.other block)
