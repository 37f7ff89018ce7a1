-- What is kept by block.
use Rattle.std.specs.Prelude.{ℕ, ◌≡◌, ◌*◌, ◌-◌, ◌/◌, ◌%◌, ◌^◌, ◌==◌, ◌++◌, ◌&&◌, Bool, true, false, nat_lt, List, length, map, filter_map, option_map, Option, None, Some, slice_index_or, if◌then◌else◌}
use Rattle.std.specs.Int.Bits.{bit_and}
use Rattle.std.specs.List.{AllByRecursion, list_any}
use Rattle.std.specs.Ordering.{nat_cmp}
use Rattle.std.specs.BTreeMap.{BTreeMap, get, is_at}
use Rattle.std.specs.Map.{lookup}

-- What a map keeps: what stands at its places, and the blocks that stand at none.
pub record BlockData (V : Type 0) : Type 0 where
  pub near : List (Option (ℕ × V))
  pub far : List (ℕ × V)

-- The place of a block among so many: all that matters is that it has one.
abbrev pub home_of : ℕ → ℕ → ℕ
home_of places block = bit_and (block * 11400714819323198485 % 2 ^ 64 / 2 ^ 40) (places - 1)

-- The value of a block by what stands at its place and what is kept elsewhere.
abbrev pub own_or : {V : Type 0} → ℕ → Option (ℕ × V) → Option V → Option V
own_or block None elsewhere = elsewhere
own_or block (Some held) elsewhere = if held.0 == block then Some held.1 else elsewhere

-- What stands at a place lets a block stand there.
abbrev pub is_open_to : {V : Type 0} → ℕ → Option (ℕ × V) → Bool
is_open_to block None = true
is_open_to block (Some held) = held.0 == block

-- What stands at a place.
abbrev pub held_at : {V : Type 0} → List (Option (ℕ × V)) → ℕ → Option (ℕ × V)
held_at places place = slice_index_or places place None

-- The block has a place among these that is free or its own.
abbrev pub has_place : {V : Type 0} → List (Option (ℕ × V)) → ℕ → Bool
has_place places block = nat_lt (home_of (length places) block) (length places) && is_open_to block (held_at places (home_of (length places) block))

-- The value of a block.
unfoldable pub value_at : {V : Type 0} → BlockData V → ℕ → Option V
value_at blocks block = own_or block (held_at blocks.near (home_of (length blocks.near) block)) (lookup (is_at (nat_cmp block)) blocks.far)

-- Each of so many places tells where a block of it may be kept elsewhere.
abbrev pub AreTold : {V : Type 0} → ℕ → List Bool → BTreeMap ℕ V → Type 0
AreTold places told far = (block : ℕ) → slice_index_or told (home_of places block) true ≡ false → get nat_cmp far block ≡ None

-- The second are the first places, and the block no longer stands at its own.
abbrev pub IsFreed : {V : Type 0} → List (Option (ℕ × V)) → List (Option (ℕ × V)) → ℕ → Type 0
IsFreed {V} one two block = (other : ℕ) (elsewhere : Option V)
    → own_or other (held_at two (home_of (length two) other)) elsewhere ≡ (if block == other then elsewhere else own_or other (held_at one (home_of (length one) other)) elsewhere)

-- Both have the same value of each block.
abbrev pub SameValues : {V : Type 0} → BlockData V → BlockData V → Type 0
SameValues one two = (block : ℕ) → value_at one block ≡ value_at two block

-- The blocks that stand at these places.
abbrev pub near_blocks : {V : Type 0} → List (Option (ℕ × V)) → List ℕ
near_blocks places = filter_map (λ place. option_map (λ held. held.0) place) places

-- All blocks that may have a value.
abbrev pub blocks_of : {V : Type 0} → BlockData V → List ℕ
blocks_of blocks = near_blocks blocks.near ++ map (λ e. e.0) blocks.far

-- Both have the same value of each of these blocks.
abbrev pub AgreeOn : {V : Type 0} → BlockData V → BlockData V → List ℕ → Type 0
AgreeOn one two blocks = AllByRecursion (λ block. value_at one block ≡ value_at two block) blocks

-- The block is one of these.
abbrev pub is_among : ℕ → List ℕ → Bool
is_among block blocks = list_any (λ other. other == block) blocks
