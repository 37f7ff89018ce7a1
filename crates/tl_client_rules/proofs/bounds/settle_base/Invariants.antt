use Rattle.std.proofs.Common.{◌≡◌, ℕ, false}
use Rattle.tl_state.specs.BlockMap.{is_among}
use Rattle.tl_state.specs.BlockWalk.{blocks_left}
use Rattle.tl_client_rules.specs.Bounds.{bound_by}
use Rattle.tl_client_rules.specs.Settled.{perm_at}
use Rattle.tl_client_rules.proofs.bounds.settle_base.Given as goal

-- the bounds stay, and each block that is not left is settled
abbrev pub invariant-loop-block : goal.invariant-loop-block
invariant-loop-block l =
    (goal.iterator-loop-block).can_next l.block-iterator ×
    (goal.iterator-loop-block).is_finite l.block-iterator ×
    ((block : ℕ) → bound_by l.recent l.base block ≡ bound_by l.recent l.initial.base block) ×
    ((block : ℕ) → is_among block (blocks_left l.block-iterator) ≡ false → perm_at l.base block ≡ bound_by l.recent l.base block)
