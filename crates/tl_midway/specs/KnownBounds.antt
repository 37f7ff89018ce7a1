-- Which permissions the bounds of a client may be.
use Rattle.std.specs.Prelude.{ℕ, ◌≡◌, Bool, Option, Some, None}
use Rattle.tl_state.specs.BlockMap.{value_at}
use Rattle.tl_tables.specs.declared.Perm.{Perm}
use Rattle.tl_definitions.specs.Known.{same_perm}
use Rattle.tl_midway.specs.LooseBounds as loose
use Rattle.tl_midway.specs.declared.known_bounds.KnownBounds.{KnownBounds}

-- A bound that is known is that permission and no other.
abbrev pub by_sure : Option Perm → Bool → Perm → Bool
by_sure None otherwise held = otherwise
by_sure (Some bound) otherwise held = same_perm bound held

-- Whether the bound of a block may be a permission.
abbrev pub may_be : KnownBounds → ℕ → Perm → Bool
may_be bounds block held = by_sure (value_at bounds.sure block) (loose.may_be bounds.loose block held) held

-- The bounds may be these.
abbrev pub AreBounds : KnownBounds → (ℕ → Perm → Bool) → Type 0
AreBounds bounds possible = (block : ℕ) (held : Perm) → may_be bounds block held ≡ possible block held
