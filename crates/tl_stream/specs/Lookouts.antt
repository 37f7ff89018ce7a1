-- Watches over the beats of their links as they come.
use Rattle.std.specs.Prelude.{◌≡◌, List}
use Rattle.tl_beats.specs.declared.Placed.{Placed}
use Rattle.tl_beats.specs.declared.Row.{Row}
use Rattle.tl_definitions.specs.Passes.{IsPass}
use Rattle.tl_definitions.specs.Tallies.{watching, kept_tally}
use Rattle.tl_stream.specs.declared.lookout.Lookout.{Lookout}

-- The rows are those that the watch flags of these beats after those before them, and its tally then counts them too. So what
-- one call after another gives is a chain, and has the rows of all beats (WatchedChainsAreWhole).
pub record IsLookedOut (old : Lookout) (beats : List Placed) (new : Lookout) (rows : List Row) : Type 0 where
  pub number : new.number ≡ old.number
  pub watch : new.watch ≡ old.watch
  pub pass : IsPass (watching old.number old.watch) (record { entry = kept_tally old.watch old.tally; beats = beats; exit = new.tally; rows = rows })
