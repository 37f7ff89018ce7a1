-- Counts of open Grants.
use Rattle.std.specs.Prelude.{ℕ, ◌+◌, Option}
use Rattle.std.specs.Option.{option_map_or}
use Rattle.tl_state.specs.BlockMap.{value_at}
use Rattle.tl_apart.specs.declared.grants.OpenGrants.{OpenGrants}

-- The count that an entry stands for.
abbrev pub count_of : Option ℕ → ℕ
count_of others = option_map_or (λ n. n + 1) others 0

-- How many are open on a block.
abbrev pub open_on : OpenGrants → ℕ → ℕ
open_on grants block = count_of (value_at grants.others block)
