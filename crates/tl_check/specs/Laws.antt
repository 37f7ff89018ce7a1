-- What follows for states and for results of windows.
use Rattle.std.specs.Prelude.{◌≡◌, ◌↔◌, List, [], ◌∷◌, ◌++◌, filter, reverse}
use Rattle.std.specs.List.{Contains}
use Rattle.tl_topology.specs.Regions.{Area}
use Rattle.tl_beats.specs.declared.Placed.{Placed}
use Rattle.tl_beats.specs.declared.Row.{Row}
use Rattle.tl_definitions.specs.Rules.{Manager}
use Rattle.tl_definitions.specs.Breaks.{rows_in}
use Rattle.tl_definitions.specs.Judging.{snapshot}
use Rattle.tl_definitions.specs.Coherence.{OneWriter, exceeds}
use Rattle.tl_check.specs.declared.state.SpanState.{SpanState}
use Rattle.tl_check.specs.States.{shown, IsOf, StandsFor, SameSpan}
use Rattle.tl_check.specs.Jobs.{Checked, IsResult, manager_of}

-- Two states of one manager are the same exactly where they show the same.
abbrev pub SameStatesShowTheSame : Type 0
SameStatesShowTheSame = (m : Manager) (one two : SpanState) → IsOf m one → IsOf m two → SameSpan one two ↔ (shown one ≡ shown two)

-- A state that is the same as one of a manager is one of that manager.
abbrev pub SameStatesAreOfOneManager : Type 0
SameStatesAreOfOneManager = (m : Manager) (one two : SpanState) → IsOf m one → SameSpan one two → IsOf m two

-- A state says nothing of regions: one of a manager is one of the same manager with others.
abbrev pub StatesKnowNoRegions : Type 0
StatesKnowNoRegions = (m : Manager) (areas : List Area) (state : SpanState) → IsOf m state
    → IsOf (record { links = m.links; clients = m.clients; exponent = m.exponent; regions = areas }) state

-- A state that is the same as one that stands for beats stands for them.
abbrev pub SameStatesStandForTheSame : Type 0
SameStatesStandForTheSame = (m : Manager) (one two : SpanState) (before : List Placed) → StandsFor m one before → SameSpan one two → StandsFor m two before

-- Results of one manager, of which the first has this entry, and each other the exit of the one before it.
abbrev pub AreJoined : Manager → SpanState → List Checked → Type 0
AreJoined m entry [] = Unit {0}
AreJoined m entry (result ∷ results) = IsResult result × (manager_of result.job ≡ m) × SameSpan entry result.job.entry × AreJoined m result.exit results

abbrev pub all_beats : List Checked → List Placed
all_beats [] = []
all_beats (result ∷ results) = result.job.beats ++ all_beats results

abbrev pub last_exit : SpanState → List Checked → SpanState
last_exit entry [] = entry
last_exit entry (result ∷ results) = last_exit result.exit results

-- Joined from the opening state on, they have the rows of all their beats, and end with what these leave.
abbrev pub JoinedResultsAreWhole : Type 0
JoinedResultsAreWhole = (m : Manager) (opening : SpanState) (results : List Checked) → StandsFor m opening [] → AreJoined m opening results →
    ((row : Row) → ((result : Checked) × Contains results result × Contains result.rows row) ↔ Contains (rows_in m (all_beats results)) row)
    × ((shown (last_exit opening results)) ≡ snapshot m (reverse (all_beats results)))

-- Where none of their rows is of P1, P2 or M1 besides, at every position of all their beats and for every block, while one
-- client may hold the block to write, no other client may hold it at all. [TileLink 1.8: coherence]
abbrev pub CleanResultsAreCoherent : Type 0
CleanResultsAreCoherent = (m : Manager) (opening : SpanState) (results : List Checked) → StandsFor m opening [] → AreJoined m opening results
    → ((result : Checked) → Contains results result → filter exceeds result.rows ≡ [])
    → (earlier later : List Placed) → all_beats results ≡ earlier ++ later → OneWriter m (reverse earlier)
