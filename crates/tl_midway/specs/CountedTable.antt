-- What is known of entries by their keys, and how many are known to be open on each block.
use Rattle.std.specs.Prelude.{ℕ, zero, suc, ◌≡◌, ◌≤◌, ◌+◌, ◌==◌, Bool, Option, Some, None, if◌then◌else◌}
use Rattle.std.specs.Option.{option_map, option_and_then}
use Rattle.tl_definitions.specs.OpenTables.{one_if, passes}
use Rattle.tl_definitions.specs.Past.{grants_block}
use Rattle.tl_definitions.specs.Known.{Known, unknown, known}
use Rattle.tl_client_rules.specs.OpenBlocks.{block_at, open_on}
use Rattle.tl_midway.specs.declared.counted.CountedTable.{CountedTable}
use Rattle.tl_midway.specs.KnownTable.{known_at}

-- What is known of a key, where this was known of it first.
abbrev pub entry_known : {V : Type 0} → CountedTable V → Known (Option V) → ℕ → Known (Option V)
entry_known table first key = known_at table.entries first key

-- The new table has this of a key, and of each other what the old one has.
abbrev pub IsSetTo : {V : Type 0} → CountedTable V → CountedTable V → ℕ → Known (Option V) → Type 0
IsSetTo {V} old new key entry = (first : Known (Option V)) (other : ℕ) → entry_known new first other ≡ (if key == other then entry else entry_known old first other)

-- How many are known to be open on a block.
abbrev pub open_count : {V : Type 0} → CountedTable V → ℕ → ℕ
open_count table block = open_on table.counted block

-- What is counted of an entry: its block, where it is known to be open and has one that is known.
abbrev pub open_block : {V : Type 0} → (V → Option ℕ) → Known (Option V) → Option (Option ℕ)
open_block block_of unknown = None
open_block block_of (known entry) = option_map (λ block. Some block) (option_and_then block_of entry)

-- An entry that is known to be open has this block.
abbrev pub HasBlock : {V : Type 0} → (V → Option ℕ) → Option ℕ → Known (Option V) → Type 0
HasBlock block_of block entry = open_block block_of entry ≡ open_block (λ value. block) entry

-- How many of the keys below a number pass a test.
unfoldable pub keys_passing : (ℕ → Bool) → ℕ → ℕ
keys_passing test zero = 0
keys_passing test (suc n) = one_if (test n) + keys_passing test n

-- What is counted of a table whose entries have these blocks is what is known of its keys, which have 16 bits, where this was
-- known of them first; and each block has its count.
pub record IsCounted {V : Type 0} (block_of : V → Option ℕ) (first : ℕ → Known (Option V)) (table : CountedTable V) : Type 0 where
  pub blocks : (key : ℕ) → block_at table.counted key ≡ open_block block_of (entry_known table (first key) key)
  pub small : (key : ℕ) → 65536 ≤ key → block_at table.counted key ≡ None
  pub counts : (block : ℕ) → open_count table block ≡ keys_passing (λ key. passes (grants_block block) (block_at table.counted key)) 65536

-- The counts stay those of the keys, where an entry is set that has this block.
abbrev pub StaysCounted : {V : Type 0} → Option ℕ → Known (Option V) → CountedTable V → CountedTable V → Type 0
StaysCounted {V} block entry old new = (block_of : V → Option ℕ) (first : ℕ → Known (Option V)) → HasBlock block_of block entry → IsCounted block_of first old → IsCounted block_of first new

-- And where one is closed.
abbrev pub KeepsCounts : {V : Type 0} → CountedTable V → CountedTable V → Type 0
KeepsCounts {V} old new = (block_of : V → Option ℕ) (first : ℕ → Known (Option V)) → IsCounted block_of first old → IsCounted block_of first new
