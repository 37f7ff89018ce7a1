use Rattle.tl_state.specs.BlockMap.{AgreeOn, blocks_of}
use Rattle.tl_state.specs.BlockWalk.{blocks_left}
use Rattle.tl_state.proofs.block_map.BlockMap.agrees.Given as goal

-- all agree where those that are left do
abbrev pub invariant-loop-block : goal.invariant-loop-block
invariant-loop-block g l =
    (goal.iterator-loop-block g).can_next l.block-iterator ×
    (goal.iterator-loop-block g).is_finite l.block-iterator ×
    (AgreeOn l.self l.other (blocks_of l.self) → AgreeOn l.self l.other (blocks_left l.block-iterator)) ×
    (AgreeOn l.self l.other (blocks_left l.block-iterator) → AgreeOn l.self l.other (blocks_of l.self))
