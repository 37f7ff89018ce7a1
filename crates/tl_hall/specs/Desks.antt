-- What a history says of the desk that it leads to: it is one desk, of which the answers are true.
use Rattle.std.specs.Prelude.{ℕ, ◌<◌, List, [], ◌∷◌, ◌++◌, length}
use Rattle.tl_topology.specs.Topology.{Topology}
use Rattle.tl_beats.specs.declared.Placed.{Placed}
use Rattle.tl_definitions.specs.Captures.{manager_beats}
use Rattle.tl_edits.specs.Edits.{plain_change}
use Rattle.tl_edits.specs.Inputs.{InputData}
use Rattle.tl_edits.specs.Log.{inputs_after}
use Rattle.tl_edits.specs.declared.edit.Change.{Change}
use Rattle.tl_board.specs.Touch.{Touches}
use Rattle.tl_capture.specs.Windows.{HasBeat}
use Rattle.tl_desk.specs.Alike.{AreAlike}
use Rattle.tl_desk.specs.Core.{Core, AllSettled}
use Rattle.tl_desk.specs.Jobs.{HasFree}
use Rattle.tl_desk.specs.Laws.{IsNoEdit}
use Rattle.tl_desk.specs.declared.call.Call.{Call}
use Rattle.tl_desk.specs.declared.call.Call.TheVariants as call
use Rattle.tl_desk.specs.declared.fault.PublishFault.TheVariants as publish_fault
use Rattle.tl_hall.specs.declared.entry.Entry.{Entry}
use Rattle.tl_hall.specs.History.{entry, Leads}
use Rattle.tl_hall.specs.Passes.{PassData, Looked, HasNone, IsUnready}
use Rattle.tl_hall.specs.Telling.{told_by}

-- One history leads to one desk: two desks that it leads to have the same.
abbrev pub OneHistoryLeadsToOneDesk : Type 0
OneHistoryLeadsToOneDesk = (topo : Topology) (log : List Entry) (one other : Core) → Leads topo log one → Leads topo log other → AreAlike one other

-- Where a history leads to a desk that has a window to take, no None is true after it.
abbrev pub FreeWindowsAreGiven : Type 0
FreeWindowsAreGiven = (p q : PassData) (core : Core) → Looked p HasNone q → Leads p.topo q.seen core → HasFree core → ⊥

-- Where a history leads to a desk whose windows are all checked, no NotReady is true after it.
abbrev pub CheckedDesksAreReady : Type 0
CheckedDesksAreReady = (p q : PassData) (core : Core) → Looked p (IsUnready publish_fault.NotReady) q → Leads p.topo q.seen core → AllSettled core → ⊥

-- ---- the same, by the history alone

abbrev pub IsEdit : Call → Type 0
IsEdit made = IsNoEdit made → ⊥

-- All entries are edits; or none is.
abbrev pub AreEdits : List Entry → Type 0
AreEdits [] = Unit {0}
AreEdits (e ∷ es) = IsEdit e.call × AreEdits es

abbrev pub AreNoEdits : List Entry → Type 0
AreNoEdits [] = Unit {0}
AreNoEdits (e ∷ es) = IsNoEdit e.call × AreNoEdits es

-- what stands after a history, and the beats of a manager in it
abbrev pub left_behind : Topology → List Entry → InputData
left_behind topo log = inputs_after topo (told_by log).edits

abbrev pub beats_behind : Topology → List Entry → ℕ → List Placed
beats_behind topo log manager = manager_beats (left_behind topo log).topo (left_behind topo log).fragments manager

-- Where a history ends with edits, of which the first touches a window of a manager, and this has a beat there in the end, no None is true.
abbrev pub TouchedWindowsAreGiven : Type 0
TouchedWindowsAreGiven = (topo : Topology) (log later : List Entry) (by number manager window : ℕ) (change : Change) (core : Core)
    → Leads topo (log ++ entry by (call.Edit change number) ∷ later) core → AreEdits later → manager < length topo.managers
    → Touches (left_behind topo log) (plain_change change) manager window → HasBeat (beats_behind topo (log ++ entry by (call.Edit change number) ∷ later) manager) window
    → HasNone core → ⊥

-- Where no edit came after a report, no NotReady is true.
abbrev pub ReportsStayReady : Type 0
ReportsStayReady = (topo : Topology) (log later : List Entry) (by version : ℕ) (core : Core)
    → Leads topo (log ++ entry by (call.Publish version) ∷ later) core → AreNoEdits later → IsUnready publish_fault.NotReady core → ⊥
