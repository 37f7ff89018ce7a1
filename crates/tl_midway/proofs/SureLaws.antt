-- Bounds of which some are known, and those of other blocks.
use Rattle.std.proofs.Common.{◌≡◌, ℕ, false, List, sym, ap, subst}
use Rattle.tl_state.specs.BlockMap.{BlockData, value_at, blocks_of, is_among}
use Rattle.tl_state.proofs.BlockMapLaws.{has_none}
use Rattle.tl_tables.specs.declared.Perm.{Perm}
use Rattle.tl_midway.specs.declared.loose_bounds.LooseBounds.{LooseBounds}
use Rattle.tl_midway.specs.LooseBounds.{may_be}
use Rattle.tl_midway.specs.KnownBounds.{by_sure}

-- Of a block that is none of those that may have a known bound, the others say all.
pub at_first : (sure : BlockData Perm) (loose : LooseBounds) (left : List ℕ) → left ≡ blocks_of sure
    → (block : ℕ) (held : Perm) → is_among block left ≡ false → may_be loose block held ≡ by_sure (value_at sure block) (may_be loose block held) held
at_first sure loose left is block held h = sym (ap (λ o. by_sure o (may_be loose block held) held) (has_none sure block (subst (λ l. is_among block l ≡ false) is h)))
