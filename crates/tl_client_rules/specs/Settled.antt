-- The bounds that copies share.
use Rattle.std.specs.Prelude.{ℕ, ◌≡◌, List, Option, Some, None, IsSome}
use Rattle.std.specs.Ordering.{nat_cmp}
use Rattle.tl_tables.specs.declared.Perm.{Perm}
use Rattle.tl_tables.specs.declared.Perm.TheVariants.{Nothing, Branch, Trunk}
use Rattle.tl_state.specs.Map.{value_at}

-- The blocks that can be held at most as a Trunk, and those as a Branch.
pub record SettledData : Type 0 where
  pub trunks : List (ℕ × Unit {0})
  pub branches : List (ℕ × Unit {0})

-- The bound of a block, by whether it is among the trunks and among the branches.
abbrev pub perm_of : Option (Unit {0}) → Option (Unit {0}) → Perm
perm_of (Some is_trunk) branch = Trunk
perm_of None (Some is_branch) = Branch
perm_of None None = Nothing

-- The bound of a block.
abbrev pub perm_at : SettledData → ℕ → Perm
perm_at settled block = perm_of (value_at nat_cmp settled.trunks block) (value_at nat_cmp settled.branches block)

-- No block is among both.
abbrev pub AreApart : List (ℕ × Unit {0}) → List (ℕ × Unit {0}) → Type 0
AreApart trunks branches = (block : ℕ) → IsSome (value_at nat_cmp trunks block) → value_at nat_cmp branches block ≡ None

-- Both have the same bound of each block.
abbrev pub SamePerms : SettledData → SettledData → Type 0
SamePerms one two = (block : ℕ) → perm_at one block ≡ perm_at two block
