-- What the readings of a link show, and what they stand for.
use Rattle.std.specs.Prelude.{ℕ, ◌≡◌, Bool, false, List, []}
use Rattle.tl_tables.specs.declared.Chan.{Chan}
use Rattle.tl_tables.specs.declared.Chan.TheVariants as chan
use Rattle.tl_tables.specs.Messages.{same_chan}
use Rattle.tl_topology.specs.declared.LinkDecl.{LinkDecl}
use Rattle.tl_beats.specs.declared.Beat.{Beat}
use Rattle.tl_beats.specs.declared.Placed.{Placed}
use Rattle.tl_definitions.specs.Heads.{before_on}
use Rattle.tl_definitions.specs.Readings.{first_readings}
use Rattle.tl_definitions.specs.Rules.{Manager}
use Rattle.tl_definitions.specs.Known.{Beginning}
use Rattle.tl_midway.specs.Midway.{IsMost}
use Rattle.tl_midway.specs.Readings as channel
use Rattle.tl_midway.specs.Readings.{Has}
use Rattle.tl_midway.specs.Standing as one
use Rattle.tl_midway.specs.declared.midway.Midway.{Midway}
use Rattle.tl_midway.specs.declared.readings.Readings.{Readings}
use Rattle.tl_midway.specs.declared.link_readings.LinkReadings.{LinkReadings}
use Rattle.tl_midway.specs.declared.standing.Standing.{Standing}

-- The readings of a channel.
abbrev pub channel_of : LinkReadings → Chan → Readings
channel_of state chan.A = state.a
channel_of state chan.B = state.b
channel_of state chan.C = state.c
channel_of state chan.D = state.d
channel_of state chan.E = state.e

-- On each channel the state has the readings of its first beat.
abbrev pub IsFirst : Midway → LinkDecl → LinkReadings → Type 0
IsFirst law link state = (chan : Chan) → (most : ℕ) × IsMost law link chan most × Has (channel_of state chan) (first_readings most) []

-- On each channel the state has the readings of its next beat, whatever they are, after some beats.
abbrev pub IsKnown : LinkReadings → Type 0
IsKnown state = (chan : Chan) → one.IsKnown (channel_of state chan)

-- On each channel the state has the readings of its next beat after these beats of the manager.
abbrev pub StandsFor : Manager → Beginning → LinkReadings → List Placed → Type 0
StandsFor m start state before = (chan : Chan)
    → channel.StandsFor (m.links state.number) (start.most state.number chan) start.by_fields (channel_of state chan) (before_on state.number chan before)

-- A beat is taken of its channel, and no other channel of the link changes.
pub record Takes (link : LinkDecl) (by_fields : Bool) (beat : Beat) (old : LinkReadings) (result : Standing) (new : LinkReadings) : Type 0 where
  pub number : new.number ≡ old.number
  pub own : one.Takes link by_fields beat (channel_of old beat.chan) result (channel_of new beat.chan)
  pub others : (chan : Chan) → same_chan beat.chan chan ≡ false → channel_of new chan ≡ channel_of old chan
