-- Counts by block.
use Rattle.std.specs.Prelude.{ℕ, ◌≡◌, ◌+◌, Option}
use Rattle.std.specs.Option.{option_map_or}
use Rattle.tl_state.specs.BlockMap.{value_at}
use Rattle.tl_client_rules.specs.declared.counts.Counts.{Counts}

-- The count that an entry stands for.
abbrev pub count_of : Option ℕ → ℕ
count_of others = option_map_or (λ n. n + 1) others 0

-- How many are open on a block.
abbrev pub count_at : Counts → ℕ → ℕ
count_at counts block = count_of (value_at counts.others block)

-- Both have the same count of each block.
abbrev pub SameCounts : Counts → Counts → Type 0
SameCounts one two = (block : ℕ) → count_at one block ≡ count_at two block
