-- What is open by key, and on each block.
use Rattle.std.specs.Prelude.{ℕ, ◌≡◌, Option}
use Rattle.tl_state.specs.Slots.{slot_of}
use Rattle.tl_client_rules.specs.Counts.{count_at}
use Rattle.tl_client_rules.specs.declared.open_blocks.OpenBlocks.{OpenBlocks}

-- The block of what is open on a key, if that is known.
abbrev pub block_at : OpenBlocks → ℕ → Option (Option ℕ)
block_at state key = slot_of state.blocks key

-- How many are open on a block.
abbrev pub open_on : OpenBlocks → ℕ → ℕ
open_on state block = count_at state.counts block

-- Both have the same open.
abbrev pub SameBlocks : OpenBlocks → OpenBlocks → Type 0
SameBlocks one two = ((key : ℕ) → block_at one key ≡ block_at two key) × ((block : ℕ) → open_on one block ≡ open_on two block)
