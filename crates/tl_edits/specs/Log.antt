-- What a list of edits leaves.
use Rattle.std.specs.Prelude.{ℕ, ◌≡◌, ◌≤◌, ◌+◌, List, [], ◌∷◌, length, None}
use Rattle.tl_topology.specs.Topology.{Topology}
use Rattle.tl_edits.specs.Edits.{AnEdit}
use Rattle.tl_edits.specs.Inputs.{InputData, blank, changed, refusal, most_edits}

abbrev pub changed_by : InputData → List AnEdit → InputData
changed_by now [] = now
changed_by now (e ∷ es) = changed_by (changed now e) es

-- What these edits leave on a topology, one after the other.
abbrev pub inputs_after : Topology → List AnEdit → InputData
inputs_after topo es = changed_by (blank topo) es

-- Each edit is accepted after those before it, so many of which were before the first of these.
abbrev pub AcceptedFrom : ℕ → InputData → List AnEdit → Type 0
AcceptedFrom edits now [] = Unit {0}
AcceptedFrom edits now (e ∷ es) = (refusal edits now e ≡ None) × AcceptedFrom (edits + 1) (changed now e) es

-- A log as plain data: its topology and its edits, each of which was accepted after those before it.
pub record LogData : Type 0 where
  pub topo : Topology
  pub edits : List AnEdit

pub record IsLog (log : LogData) : Type 0 where
  pub accepted : AcceptedFrom 0 (blank log.topo) log.edits
  pub few : length log.edits ≤ most_edits
