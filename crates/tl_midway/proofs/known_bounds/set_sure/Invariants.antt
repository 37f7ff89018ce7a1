use Rattle.std.proofs.Common.{◌≡◌, ℕ, false, None}
use Rattle.tl_tables.specs.declared.Perm.{Perm}
use Rattle.tl_state.specs.BlockMap.{value_at, is_among}
use Rattle.tl_state.specs.BlockWalk.{blocks_left}
use Rattle.tl_midway.specs.LooseBounds.{may_be}
use Rattle.tl_midway.specs.KnownBounds.{by_sure}
use Rattle.tl_midway.proofs.known_bounds.set_sure.Given as goal

-- each block that is not left has what is known of its bound, and one of which none is known what it had
abbrev pub invariant-loop-block : goal.invariant-loop-block
invariant-loop-block l =
    goal.iterator-loop-block.can_next l.block-iterator ×
    goal.iterator-loop-block.is_finite l.block-iterator ×
    ((block : ℕ) (held : Perm) → value_at l.sure block ≡ None → may_be l.loose block held ≡ may_be l.initial.loose block held) ×
    ((block : ℕ) (held : Perm) → is_among block (blocks_left l.block-iterator) ≡ false
    → may_be l.loose block held ≡ by_sure (value_at l.sure block) (may_be l.initial.loose block held) held)
