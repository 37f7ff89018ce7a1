-- What is known of entries by their keys.
use Rattle.std.specs.Prelude.{ℕ, ◌≡◌, ◌==◌, if◌then◌else◌}
use Rattle.std.specs.Option.{option_map_or}
use Rattle.tl_state.specs.Slots.{slot_of}
use Rattle.tl_state.specs.BlockMap.{value_at}
use Rattle.tl_definitions.specs.Known.{Known}
use Rattle.tl_midway.specs.declared.table.KnownTable.{KnownTable}
use Rattle.tl_midway.specs.declared.table.KnownBlocks.{KnownBlocks}
use Rattle.tl_midway.specs.Known.{known_of}

-- What is known of a key, where this was known of it first.
abbrev pub known_at : {T : Type 0} → KnownTable T → Known T → ℕ → Known T
known_at table first key = option_map_or known_of (slot_of table.entries key) first

-- The new table has this of a key, and of each other what the old one has.
abbrev pub IsSet : {T : Type 0} → KnownTable T → KnownTable T → ℕ → Known T → Type 0
IsSet {T} old new key now = (first : Known T) (other : ℕ) → known_at new first other ≡ (if key == other then now else known_at old first other)

-- The same of a block.
abbrev pub known_on : {T : Type 0} → KnownBlocks T → Known T → ℕ → Known T
known_on table first block = option_map_or known_of (value_at table.entries block) first

abbrev pub IsSetOn : {T : Type 0} → KnownBlocks T → KnownBlocks T → ℕ → Known T → Type 0
IsSetOn {T} old new block now = (first : Known T) (other : ℕ) → known_on new first other ≡ (if block == other then now else known_on old first other)
