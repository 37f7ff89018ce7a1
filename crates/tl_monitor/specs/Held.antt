-- What a monitor holds.
use Rattle.std.specs.Prelude.{ℕ, ◌≡◌, ◌++◌, List}
use Rattle.tl_beats.specs.declared.Placed.{Placed}
use Rattle.tl_beats.specs.declared.Row.{Row}
use Rattle.tl_beats.specs.declared.watch.Watch.{Watch}
use Rattle.tl_definitions.specs.Passes.{IsPass, left_after}
use Rattle.tl_definitions.specs.Tallies.{watching, kept_tally}

-- Its watch, its tally, and the edit that closed it, or 0.
pub record Held : Type 0 where
  pub watch : Watch
  pub tally : ℕ
  pub closed_at : ℕ

-- Watching these beats under this number from a tally, as the watch keeps it, leaves this tally and finds these rows.
abbrev pub WatchFinds : ℕ → Watch → ℕ → List Placed → ℕ → List Row → Type 0
WatchFinds number watch tally beats left rows = IsPass (watching number watch) (record { entry = kept_tally watch tally; beats = beats; exit = left; rows = rows })

-- The monitor holds what it held, with the tally that some front of these beats leaves, from a tally as its watch keeps it.
abbrev pub StopsAmid : ℕ → Held → ℕ → List Placed → Held → Type 0
StopsAmid number old tally beats new = (seen rest : List Placed) × (beats ≡ seen ++ rest)
    × (new ≡ record old { tally = left_after (watching number old.watch) (kept_tally old.watch tally) seen })
