-- How many beats are heads, and how much of what they open is still open.
use Rattle.std.specs.Prelude.{ℕ, ◌≡◌, ◌+◌, ◌↔◌, not, Bool, List, [], ◌∷◌, length, IsSome}
use Rattle.std.specs.List.{Contains}
use Rattle.std.specs.List.Sorted.{IsStrictlySortedBy}
use Rattle.std.specs.Ordering.{nat_cmp}
use Rattle.tl_tables.specs.declared.Chan.{Chan}
use Rattle.tl_tables.specs.declared.Chan.TheVariants as chan
use Rattle.tl_beats.specs.declared.Placed.{Placed}
use Rattle.tl_definitions.specs.OpenTables.{Table, open_at, one_if}
use Rattle.tl_definitions.specs.Heads.{before_on, is_head}
use Rattle.tl_definitions.specs.Messages.{Message, Links, sources, releases, sinks, probes, at_head}
use Rattle.tl_definitions.specs.Rules.{Manager}
use Rattle.tl_rows.specs.declared.counts.Opened.{Opened}
use Rattle.tl_rows.specs.declared.counts.Opened.TheVariants as opened
use Rattle.tl_rows.specs.declared.counts.OpenCounts.{OpenCounts}
use Rattle.tl_rows.specs.declared.origin.Origin.{Origin}
use Rattle.tl_rows.specs.Origins.{origins_on, placed}

-- How many of the beats are heads, after others, the newest of these first.
abbrev pub heads_after : Links → List Placed → List Placed → ℕ
heads_after links before [] = 0
heads_after links before (p ∷ beats) = one_if (at_head links before p) + heads_after links (p ∷ before) beats

-- So many openers are open: there are so many keys, each once, on which one is.
abbrev pub IsCount : Table Message → List Origin → ℕ → Type 0
IsCount table before count = (keys : List ℕ) × (length keys ≡ count) × IsStrictlySortedBy nat_cmp keys
    × ((key : ℕ) → Contains keys key ↔ IsSome (open_at (placed table) key before))

-- The next beat of a channel would be a later beat.
abbrev pub is_unfinished : Links → ℕ → List Placed → Chan → Bool
is_unfinished links link before chan = not (is_head (links link) (before_on link chan before))

-- How many channels have such a burst.
abbrev pub unfinished_count : Links → ℕ → List Placed → ℕ
unfinished_count links link before =
    one_if (is_unfinished links link before chan.A) + one_if (is_unfinished links link before chan.B) + one_if (is_unfinished links link before chan.C)
    + one_if (is_unfinished links link before chan.D) + one_if (is_unfinished links link before chan.E)

-- So many are open on a link after these beats, the newest first.
abbrev pub IsOpenOn : Links → ℕ → List Placed → Opened → ℕ → ℕ → Type 0
IsOpenOn links exponent before opened.Request link count = IsCount sources (origins_on links link before) count
IsOpenOn links exponent before opened.Release link count = IsCount releases (origins_on links link before) count
IsOpenOn links exponent before opened.Probe link count = IsCount (probes exponent) (origins_on links link before) count
IsOpenOn links exponent before opened.Grant link count = IsCount sinks (origins_on links link before) count
IsOpenOn links exponent before opened.Burst link count = count ≡ unfinished_count links link before

abbrev pub IsOpenCount : Manager → List Placed → Opened → ℕ → ℕ → Type 0
IsOpenCount m before kind link count = IsOpenOn m.links m.exponent before kind link count

-- The number is the sum of one for each of the links.
abbrev pub IsTotal : (ℕ → ℕ → Type 0) → List ℕ → ℕ → Type 0
IsTotal counts [] total = total ≡ 0
IsTotal counts (link ∷ links) total = (here rest : ℕ) × counts link here × IsTotal counts links rest × (total ≡ here + rest)

-- So many of each are open at the clients of a manager.
abbrev pub AreOpen : Manager → List Placed → OpenCounts → Type 0
AreOpen m before counts =
    IsTotal (IsOpenCount m before opened.Request) m.clients counts.requests × IsTotal (IsOpenCount m before opened.Release) m.clients counts.releases
    × IsTotal (IsOpenCount m before opened.Probe) m.clients counts.probes × IsTotal (IsOpenCount m before opened.Grant) m.clients counts.grants
    × IsTotal (IsOpenCount m before opened.Burst) m.clients counts.bursts
