-- What a walk over blocks has left.
use Rattle.std.specs.Prelude.{ℕ, List, ◌++◌, map}
use Rattle.tl_state.specs.BlockMap.{near_blocks}
use Rattle.tl_state.specs.declared.block_walk.Blocks.{Blocks}

-- The blocks that it still gives, in their order.
abbrev pub blocks_left : {V : Type 0} → Blocks V → List ℕ
blocks_left walk = near_blocks walk.near.now ++ map (λ e. e.0) walk.far
