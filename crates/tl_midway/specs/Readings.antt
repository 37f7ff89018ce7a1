-- What the readings of a channel's next beat show, and what they stand for.
use Rattle.std.specs.Prelude.{ℕ, ◌≡◌, Bool, Some, List, [], ◌∷◌, map}
use Rattle.tl_topology.specs.declared.LinkDecl.{LinkDecl}
use Rattle.tl_beats.specs.declared.Beat.{Beat}
use Rattle.tl_definitions.specs.Readings.{Reading, rest, readings_after}
use Rattle.tl_midway.specs.Members.{SameMembers}
use Rattle.tl_midway.specs.Reading.{shown_reading, AreFormed}
use Rattle.tl_midway.specs.Seen.{Tells}
use Rattle.tl_midway.specs.declared.readings.Readings.{Readings}

-- All readings that a state has.
abbrev pub shown_readings : Readings → List Reading
shown_readings state = shown_reading state.one ∷ map shown_reading state.others.items

-- There is one reading, by which the next beat is one that a message of the capture lacks.
abbrev pub IsSole : List Reading → Type 0
IsSole readings = (head : Beat) × (missing : ℕ) × (readings ≡ rest missing (Some head) ∷ [])

-- The state has these readings after these beats of its channel, the newest first.
pub record Has (state : Readings) (readings : List Reading) (before : List Beat) : Type 0 where
  pub members : SameMembers (shown_readings state) readings
  pub seen : Tells state.seen before
  pub formed : AreFormed readings

-- It has those of the channel's next beat.
abbrev pub StandsFor : LinkDecl → ℕ → Bool → Readings → List Beat → Type 0
StandsFor link most by_fields state before = Has state (readings_after link most by_fields before) before
