use Rattle.tl_state.specs.Walk.{entries_left}
use Rattle.tl_client_rules.specs.Bounds.{AgreeOn}
use Rattle.tl_client_rules.proofs.bounds.Bounds.agrees_on.Given as goal

-- all agree where those that are left do
abbrev pub invariant-loop-block : goal.invariant-loop-block
invariant-loop-block l =
    (goal.iterator-loop-block).can_next l.block-iterator ×
    (goal.iterator-loop-block).is_finite l.block-iterator ×
    (AgreeOn l.self l.other l.blocks → AgreeOn l.self l.other (entries_left l.block-iterator)) ×
    (AgreeOn l.self l.other (entries_left l.block-iterator) → AgreeOn l.self l.other l.blocks)
