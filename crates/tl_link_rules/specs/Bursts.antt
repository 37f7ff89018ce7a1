-- What a state of bursts shows, and what it stands for.
use Rattle.std.specs.Prelude.{◌≡◌, ◌≤◌, ◌-◌, ℕ, zero, suc, List, [], ◌∷◌, length, Option, Some, None, true, if◌then◌else◌, slice_index_or}
use Rattle.std.specs.Option.{option_map_or}
use Rattle.std.specs.List.{All}
use Rattle.tl_tables.specs.declared.Chan.{Chan}
use Rattle.tl_tables.specs.Messages.{chan_number, same_chan}
use Rattle.tl_topology.specs.declared.LinkDecl.{LinkDecl}
use Rattle.tl_beats.specs.declared.Beat.{Beat}
use Rattle.tl_beats.specs.declared.Placed.{Placed}
use Rattle.tl_definitions.specs.declared.Unfinished.{Unfinished}
use Rattle.tl_definitions.specs.Breaks.{later_rules}
use Rattle.tl_definitions.specs.Heads.{is_head, last_head, before_on, unfinished, after_beat, left}
use Rattle.tl_link_rules.specs.declared.bursts.Place.{Place}
use Rattle.tl_link_rules.specs.declared.bursts.Place.TheVariants as place
use Rattle.tl_link_rules.specs.declared.bursts.BurstState.{BurstState}

-- What the next beat of a channel of a link is, after these: a head, or a later beat of the newest head.
abbrev pub place_of : LinkDecl → List Beat → Place
place_of link before = if is_head link before then place.Head else option_map_or place.Later (last_head link before) place.Head

-- the same, from the burst that they leave unfinished
abbrev pub place_in : Option Unfinished → Place
place_in None = place.Head
place_in (Some burst) = place.Later burst.head

-- what is unfinished on each channel after a beat, from what was before it
abbrev pub slots_after : LinkDecl → Beat → (Chan → Option Unfinished) → Chan → Option Unfinished
slots_after link beat slots chan = if same_chan beat.chan chan then after_beat link beat (slots chan) else slots chan

-- what a state shows on a channel
abbrev pub slot_at : BurstState → Chan → Option Unfinished
slot_at state chan = slice_index_or state.slots (chan_number chan) None

-- A beat of a channel that breaks no rule as a later beat of a head, whatever its link.
abbrev pub IsQuiet : Chan → Beat → Beat → Type 0
IsQuiet chan head beat = (same_chan beat.chan chan ≡ true) × ((link : LinkDecl) → later_rules link beat head ≡ [])

-- Beats that go on with what is unfinished on a channel, each of which is quiet.
abbrev pub IsRun : Chan → Option Unfinished → List Beat → Type 0
IsRun chan None beats = beats ≡ []
IsRun chan (Some burst) beats = (length beats ≤ burst.missing) × All (IsQuiet chan burst.head) beats

-- what is unfinished on a channel after so many later beats
abbrev pub later_left : ℕ → Option Unfinished → Option Unfinished
later_left zero slot = slot
later_left (suc n) None = None
later_left (suc n) (Some burst) = left burst.head (burst.missing - suc n)

-- what is unfinished on each channel after so many later beats of one
abbrev pub slots_with : Chan → ℕ → (Chan → Option Unfinished) → Chan → Option Unfinished
slots_with chan count slots other = if same_chan chan other then later_left count (slots other) else slots other

-- The state shows what these beats leave unfinished on each channel of the link with this number.
pub record StandsFor (state : BurstState) (link : LinkDecl) (number : ℕ) (before : List Placed) : Type 0 where
  pub slots : (chan : Chan) → slot_at state chan ≡ unfinished link (before_on number chan before)

-- Where the old state stands for beats of a link, the new one stands for them and this beat, wherever that is written.
abbrev pub StandsWith : BurstState → BurstState → LinkDecl → Beat → Type 0
StandsWith old new link beat = (number fragment line : ℕ) (before : List Placed) → StandsFor old link number before
    → StandsFor new link number (record { link = number; fragment = fragment; line = line; beat = beat } ∷ before)

-- Both show the same on each channel.
abbrev pub SameBursts : BurstState → BurstState → Type 0
SameBursts one two = (chan : Chan) → slot_at one chan ≡ slot_at two chan
