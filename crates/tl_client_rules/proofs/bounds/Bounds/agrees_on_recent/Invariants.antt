use Rattle.tl_state.specs.BlockMap.{blocks_of}
use Rattle.tl_state.specs.BlockWalk.{blocks_left}
use Rattle.tl_client_rules.specs.Bounds.{AgreeOnBlocks}
use Rattle.tl_client_rules.proofs.bounds.Bounds.agrees_on_recent.Given as goal

-- all agree where those that are left do
abbrev pub invariant-loop-block : goal.invariant-loop-block
invariant-loop-block l =
    (goal.iterator-loop-block).can_next l.block-iterator ×
    (goal.iterator-loop-block).is_finite l.block-iterator ×
    (AgreeOnBlocks l.self l.other (blocks_of l.self.recent) → AgreeOnBlocks l.self l.other (blocks_left l.block-iterator)) ×
    (AgreeOnBlocks l.self l.other (blocks_left l.block-iterator) → AgreeOnBlocks l.self l.other (blocks_of l.self.recent))
