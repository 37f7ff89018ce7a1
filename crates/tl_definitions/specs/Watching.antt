-- Watches: which beats of its link a monitor flags, by all beats of that link before them, the newest first.
use Rattle.std.specs.Prelude.{ℕ, ◌≡◌, ◌↔◌, ◌^◌, ◌<◌, ◌&&◌, Bool, true, List, [], ◌∷◌, ◌++◌, Some, if◌then◌else◌, count_by, nat_le, reverse}
use Rattle.std.specs.List.{list_any, Contains}
use Rattle.tl_tables.specs.declared.Rule.TheVariants as rule
use Rattle.tl_beats.specs.declared.Placed.{Placed}
use Rattle.tl_beats.specs.declared.Row.{Row}
use Rattle.tl_beats.specs.declared.watch.Class.{Class}
use Rattle.tl_beats.specs.declared.watch.Watch.{Watch}
use Rattle.tl_beats.specs.declared.watch.Watch.TheVariants as watch
use Rattle.tl_beats.specs.Watches.{matches}

-- How many of these beats are of the class, and whether some beat is.
abbrev pub seen : Class → List Placed → ℕ
seen class beats = count_by (λ p. matches class p.beat) beats

abbrev pub came : Class → List Placed → Bool
came class beats = list_any (λ p. matches class p.beat) beats

-- X1: a Budget flags each beat of its class with at least as many before it as its limit says; an After each beat of its second
-- class with one of its first strictly before it. Every beat counts, later beats of a burst too. [own profile]
abbrev pub flags : Watch → List Placed → Placed → Bool
flags (watch.Budget link class limit) before p = matches class p.beat && nat_le limit (seen class before)
flags (watch.After link first second) before p = matches second p.beat && came first before

-- The watch with another limit; an After has none.
abbrev pub retuned : Watch → ℕ → Watch
retuned (watch.Budget link class old) limit = watch.Budget link class limit
retuned (watch.After link first second) limit = watch.After link first second

-- A watch that a program can hold: its limit is a 32-bit number.
abbrev pub IsWatch : Watch → Type 0
IsWatch (watch.Budget link class limit) = limit < 2 ^ 32
IsWatch (watch.After link first second) = Unit {0}

-- The row of a report that says that the monitor's watch flags the beat.
abbrev pub flag_row : ℕ → Placed → Row
flag_row monitor p = record { link = p.link; cycle = p.beat.cycle; chan = p.beat.chan; rule = rule.X1; monitor = Some monitor; fragment = p.fragment; line = p.line }

-- The row is of a beat of the watched link that the monitor's watch flags after all beats before it.
abbrev pub Flags : ℕ → Watch → List Placed → Row → Type 0
Flags monitor w beats row = (earlier later : List Placed) × (p : Placed) × (beats ≡ earlier ++ p ∷ later)
    × (flags w (reverse earlier) p ≡ true) × (row ≡ flag_row monitor p)

-- All rows of beats in their order that come after others.
abbrev pub flags_after : ℕ → Watch → List Placed → List Placed → List Row
flags_after monitor w before [] = []
flags_after monitor w before (p ∷ beats) = (if flags w before p then flag_row monitor p ∷ [] else []) ++ flags_after monitor w (p ∷ before) beats

abbrev pub flags_in : ℕ → Watch → List Placed → List Row
flags_in monitor w beats = flags_after monitor w [] beats

-- A row is among them if and only if the watch flags its beat.
abbrev pub RowsAreFlags : Type 0
RowsAreFlags = (monitor : ℕ) (w : Watch) (beats : List Placed) (row : Row) → Contains (flags_in monitor w beats) row ↔ Flags monitor w beats row
