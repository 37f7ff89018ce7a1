-- Where a monitor is: here, or out with a job.
use Rattle.std.specs.Prelude.{ℕ, ◌≡◌, Option, Some, None}
use Rattle.tl_beats.specs.declared.watch.Watch.{Watch}
use Rattle.tl_beats.specs.declared.watch.Watch.TheVariants as watch
use Rattle.tl_definitions.specs.Watching.{retuned}
use Rattle.tl_monitor.specs.Held.{Held}
use Rattle.tl_monitor.specs.declared.away.Away.{Away}

pub data Place : Type 0 where
  Here : Held → Place
  Out : Away → Place

-- the limit of a Budget; an After has none
abbrev pub limit_of : Watch → ℕ
limit_of (watch.Budget link class limit) = limit
limit_of (watch.After link first second) = 0

-- the monitor that is here
abbrev pub held_of : Place → Option Held
held_of (Here held) = Some held
held_of (Out away) = None

-- what is known of the one that is out
abbrev pub away_of : Place → Option Away
away_of (Here held) = None
away_of (Out away) = Some away

-- the watch of one that is out, unless it was detached meanwhile
abbrev pub watch_unless_closing : Watch → Option ℕ → Option Watch
watch_unless_closing w None = Some w
watch_unless_closing w (Some edit) = None

-- the watch that a monitor has as an attached one
abbrev pub watch_of_place : Place → Option Watch
watch_of_place (Here held) = Some held.watch
watch_of_place (Out away) = watch_unless_closing away.watch away.closing

-- under which ticket one is out, and with which watch it left
abbrev pub departure : Place → Option (ℕ × Watch)
departure (Here held) = None
departure (Out away) = Some (away.ticket, away.taken)

-- The watch that one that is out is to have is the one that it left with, but for the limit.
abbrev pub IsKept : Place → Type 0
IsKept (Here held) = Unit {0}
IsKept (Out away) = retuned away.taken (limit_of away.watch) ≡ away.watch

-- a monitor with another limit
abbrev pub tuned : ℕ → Held → Held
tuned limit held = record held { watch = retuned held.watch limit }

-- the same of one that may be out, which then gets the limit as it comes back
abbrev pub place_tuned : ℕ → Place → Place
place_tuned limit (Here held) = Here (tuned limit held)
place_tuned limit (Out away) = Out (record away { watch = retuned away.watch limit })

-- one that is out is detached by an edit
abbrev pub place_closing : ℕ → Place → Place
place_closing edit (Here held) = Here held
place_closing edit (Out away) = Out (record away { closing = Some edit })

-- a monitor that goes out under a ticket
abbrev pub leaving : ℕ → Held → Away
leaving ticket held = record { ticket = ticket; taken = held.watch; watch = held.watch; closing = None }

abbrev pub place_left : ℕ → Place → Place
place_left ticket (Here held) = Out (leaving ticket held)
place_left ticket (Out away) = Out away
