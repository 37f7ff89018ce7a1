-- The tally of a watch: all that the beats of its link leave for those that come.
use Rattle.std.specs.Prelude.{ℕ, ◌≡◌, ◌↔◌, ◌+◌, ◌&&◌, Bool, List, [], ◌∷◌, if◌then◌else◌, min, nat_le, reverse}
use Rattle.std.specs.List.{Contains}
use Rattle.tl_beats.specs.declared.Beat.{Beat}
use Rattle.tl_beats.specs.declared.Placed.{Placed}
use Rattle.tl_beats.specs.declared.Row.{Row}
use Rattle.tl_beats.specs.declared.watch.Watch.{Watch}
use Rattle.tl_beats.specs.declared.watch.Watch.TheVariants as watch
use Rattle.tl_beats.specs.Watches.{matches}
use Rattle.tl_definitions.specs.Watching.{seen, came, flags, flag_row, flags_in, IsWatch}
use Rattle.tl_definitions.specs.Passes.{Judge, Pass, IsChain, SomeHas, pass_beats, last_exit}

-- The tally of these beats: how many are of a Budget's class, at most the greatest 32-bit number; 1 where one is of an After's first.
abbrev pub tally_of : Watch → List Placed → ℕ
tally_of (watch.Budget link class limit) beats = min (seen class beats) 4294967295
tally_of (watch.After link first second) beats = if came first beats then 1 else 0

-- Whether a beat is flagged, by the tally of those before it, and the tally with it.
abbrev pub flags_at : Watch → ℕ → Beat → Bool
flags_at (watch.Budget link class limit) tally beat = matches class beat && nat_le limit tally
flags_at (watch.After link first second) tally beat = matches second beat && nat_le 1 tally

abbrev pub tally_with : Watch → ℕ → Beat → ℕ
tally_with (watch.Budget link class limit) tally beat = if matches class beat then min (tally + 1) 4294967295 else tally
tally_with (watch.After link first second) tally beat = if matches first beat then 1 else tally

-- A tally as a watch keeps it: an After knows 0 and 1 alone.
abbrev pub kept_tally : Watch → ℕ → ℕ
kept_tally (watch.Budget link class limit) tally = tally
kept_tally (watch.After link first second) tally = min tally 1

-- The beats are all of one link.
abbrev pub AreOfOneLink : List Placed → Type 0
AreOfOneLink beats = (p q : Placed) → Contains beats p → Contains beats q → p.link ≡ q.link

-- A monitor judges the beats of its link by the tally.
abbrev pub watching : ℕ → Watch → Judge ℕ
watching monitor w = record {
  rows = λ tally p. if flags_at w tally p.beat then flag_row monitor p ∷ [] else [];
  next = λ tally p. tally_with w tally p.beat;
}

-- Judging by the tally of any beats flags what the watch flags after them, and gives the tally of them all.
abbrev pub TalliesAreExact : Type 0
TalliesAreExact = (w : Watch) (before : List Placed) (p : Placed) → IsWatch w →
    (flags_at w (tally_of w before) p.beat ≡ flags w before p) × (tally_with w (tally_of w before) p.beat ≡ tally_of w (p ∷ before))

-- What a monitor keeps of a tally is the tally, where that is one of its watch; so its past can be put in its place.
abbrev pub TalliesAreKept : Type 0
TalliesAreKept = (w : Watch) (beats : List Placed) → kept_tally w (tally_of w beats) ≡ tally_of w beats

-- A chain from 0 flags what the watch flags in its whole list of beats, and ends with the tally of that.
abbrev pub WatchedChainsAreWhole : Type 0
WatchedChainsAreWhole = (monitor : ℕ) (w : Watch) (passes : List (Pass ℕ)) → IsWatch w → IsChain (watching monitor w) 0 passes →
    ((row : Row) → SomeHas passes row ↔ Contains (flags_in monitor w (pass_beats passes)) row)
    × (last_exit 0 passes ≡ tally_of w (reverse (pass_beats passes)))
