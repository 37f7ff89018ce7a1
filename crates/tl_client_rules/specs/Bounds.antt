-- Bounds by block.
use Rattle.std.specs.Prelude.{ℕ, ◌≡◌, List, Option, None, unwrap_or}
use Rattle.std.specs.List.{AllByRecursion}
use Rattle.tl_tables.specs.declared.Perm.{Perm}
use Rattle.tl_state.specs.BlockMap as set
use Rattle.tl_client_rules.specs.Settled.{SettledData, perm_at}
use Rattle.tl_state.specs.BlockMap.{BlockData}
use Rattle.tl_client_rules.specs.declared.bounds.Bounds.{Bounds}

-- The bound of a block by what was set of it and what is settled: what was set comes first.
abbrev pub bound_by : BlockData Perm → SettledData → ℕ → Perm
bound_by recent base block = unwrap_or (set.value_at recent block) (perm_at base block)

-- The bound of a block as it was last settled.
abbrev pub settled_at : Bounds → ℕ → Perm
settled_at bounds block = perm_at bounds.base block

-- The bound that was set since then, if one was.
abbrev pub recent_at : Bounds → ℕ → Option Perm
recent_at bounds block = set.value_at bounds.recent block

-- The bound of a block: what was set since the settling comes first.
abbrev pub bound_at : Bounds → ℕ → Perm
bound_at bounds block = unwrap_or (recent_at bounds block) (settled_at bounds block)

-- Both have the same bound of each block.
abbrev pub SameBounds : Bounds → Bounds → Type 0
SameBounds one two = (block : ℕ) → bound_at one block ≡ bound_at two block

-- All bounds are settled.
abbrev pub IsSettled : Bounds → Type 0
IsSettled bounds = (block : ℕ) → recent_at bounds block ≡ None

-- Both have the same bound of each of these blocks.
abbrev pub AgreeOnBlocks : Bounds → Bounds → List ℕ → Type 0
AgreeOnBlocks one two blocks = AllByRecursion (λ block. bound_at one block ≡ bound_at two block) blocks

-- Both have the same bound of the block of each of these entries.
abbrev pub AgreeOn : Bounds → Bounds → {V : Type 0} → List (ℕ × V) → Type 0
AgreeOn one two entries = AllByRecursion (λ e. bound_at one e.0 ≡ bound_at two e.0) entries

-- Both have the same bound of each block that is settled here.
abbrev pub AgreeOnBase : Bounds → Bounds → Type 0
AgreeOnBase one two = AgreeOn one two one.base.trunks × AgreeOn one two one.base.branches
