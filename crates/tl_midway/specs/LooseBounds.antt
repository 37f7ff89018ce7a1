-- Which permissions bounds may be, where each may be several.
use Rattle.std.specs.Prelude.{ℕ, ◌≡◌, not, is_some, Bool}
use Rattle.tl_state.specs.BlockMap.{BlockData, value_at}
use Rattle.tl_tables.specs.declared.Perm.{Perm}
use Rattle.tl_tables.specs.declared.Perm.TheVariants as perm
use Rattle.tl_midway.specs.declared.loose_bounds.LooseBounds.{LooseBounds}

-- The block is in the set.
abbrev pub holds : BlockData (Unit {0}) → ℕ → Bool
holds blocks block = is_some (value_at blocks block)

-- Whether the bound of a block may be a permission.
abbrev pub may_be : LooseBounds → ℕ → Perm → Bool
may_be bounds block perm.Nothing = not (holds bounds.not_nothing block)
may_be bounds block perm.Branch = not (holds bounds.not_branch block)
may_be bounds block perm.Trunk = not (holds bounds.not_trunk block)

-- The bounds may be these.
abbrev pub AreBounds : LooseBounds → (ℕ → Perm → Bool) → Type 0
AreBounds bounds possible = (block : ℕ) (held : Perm) → may_be bounds block held ≡ possible block held
