-- A hall and its passes, as contracts see them.
use Rattle.std.specs.Prelude.{◌≡◌, ◌≢◌, ◌<◌, ◌≤◌, ℕ, Bool, true, false, List, [], ◌∷◌, ◌++◌, length, take, Option, Some, None}
use mathlib.Core.List.{IsPrefix}
use Rattle.atomic_table.specs.Seated.{TableId}
use Rattle.tl_definitions.specs.Report.{IsReport}
use Rattle.tl_topology.specs.Topology.{Topology}
use Rattle.tl_edits.specs.Edits.{AnEdit}
use Rattle.tl_edits.specs.Inputs.{refusal}
use Rattle.tl_edits.specs.Log.{inputs_after}
use Rattle.tl_edits.specs.declared.fault.EditFault.{EditFault}
use Rattle.tl_edits.specs.declared.fault.EditFault.TheVariants as edit_fault
use Rattle.tl_desk.specs.declared.take_fault.TakeFault.{TakeFault}
use Rattle.tl_desk.specs.declared.take_fault.TakeFault.TheVariants as take_fault
use Rattle.tl_desk.specs.declared.job.Job.{Job}
use Rattle.tl_desk.specs.declared.job.Done.{Done}
use Rattle.tl_desk.specs.declared.job.HandIn.{HandIn}
use Rattle.tl_desk.specs.declared.job.HandIn.TheVariants as answer
use Rattle.tl_desk.specs.Works.{job_of}
use Rattle.tl_pieces.specs.Pieces.{IsFirstFree}
use Rattle.tl_check.specs.Captured.{captures_after}
use Rattle.tl_check.specs.Output.{ReportData}
use Rattle.tl_check.specs.States.{SameSpan}
use Rattle.tl_desk.specs.TicketData.{most_tickets}
use Rattle.tl_desk.specs.Core.{Core, AllSettled, AreLinked, most_versions, log_of, latest_of, standing}
use Rattle.tl_desk.specs.Jobs.{Gives, HasFree, HandsBack, TakesBack, IsFirstFreeWatch, IsLive, IsOldestLive, IsOutHere}
use Rattle.tl_desk.specs.Steps.{Step, hand_in_of}
use Rattle.tl_desk.specs.declared.call.Call.{Call}
use Rattle.tl_desk.specs.declared.fault.PublishFault.{PublishFault}
use Rattle.tl_desk.specs.declared.fault.PublishFault.TheVariants as publish_fault
use Rattle.tl_hall.specs.declared.entry.Entry.{Entry}
use Rattle.tl_hall.specs.declared.entry.View.{View}
use Rattle.tl_hall.specs.History.{entry, own, OnlyWork, Leads}
use Rattle.tl_hall.specs.Rule.{Sat, IsUnmade, longer}

-- which hall it is, and its topology
pub record HallData : Type 0 where
  pub hall : TableId
  pub topo : Topology

-- the hall of a pass and its topology, the number of the pass and the distance to those that it may give, what it has seen of the history, and
-- whether each other pass of the hall only helps
pub record PassData : Type 0 where
  pub hall : TableId
  pub topo : Topology
  pub number : ℕ
  pub stride : ℕ
  pub seen : List Entry
  pub sole : Bool

abbrev pub passed : TableId → View → PassData
passed table v = record { hall = table; topo = v.topo; number = v.number; stride = v.stride; seen = v.seen; sole = v.sole }

-- a seat between two calls
pub record IsResting (m : Sat) : Type 0 where
  pub bare : m.1 ≡ []
  pub waits : m.0.turn ≡ false
  pub lives : m.0.spent ≡ false
  pub strides : 0 < m.0.stride
  pub alone : m.0.met ≡ []
  pub unmade : IsUnmade m.0 m.0.seen

-- a seat between two calls whose pass only helps, or makes all calls
abbrev pub IsAtRest : Bool → Sat → Type 0
IsAtRest helps m = IsResting m × (m.0.helps ≡ helps)

-- a seat that holds the turn and the empty slot
pub record IsInside (m : Sat) : Type 0 where
  pub bare : m.1 ≡ (0, None) ∷ []
  pub holds : m.0.turn ≡ true
  pub lives : m.0.spent ≡ false
  pub strides : 0 < m.0.stride
  pub alone : m.0.met ≡ []
  pub unmade : IsUnmade m.0 m.0.seen

-- the view after the turn is taken
pub record Saw (v w : View) : Type 0 where
  pub topo_is : w.topo ≡ v.topo
  pub number_is : w.number ≡ v.number
  pub stride_is : w.stride ≡ v.stride
  pub helps_is : w.helps ≡ v.helps
  pub sole_is : w.sole ≡ v.sole
  pub saw : IsPrefix v.seen w.seen
  pub own_is : own v.number w.seen ≡ own v.number v.seen
  pub others : v.sole ≡ true → OnlyWork v.seen w.seen

-- The same pass of the same hall.
abbrev pub IsSame : PassData → PassData → Type 0
IsSame p q = (q.hall ≡ p.hall) × (q.topo ≡ p.topo) × (q.number ≡ p.number) × (q.stride ≡ p.stride) × (q.sole ≡ p.sole)

-- The pass after a call that made an entry. The history ends with this entry, and before it stands all that was seen, with no other entry of the
-- pass besides its earlier ones, and where all others only help, workers' calls alone. It leads to a desk, of which the call, as one step, makes the desk that the whole history leads to.
pub record Made (p : PassData) (made : Call) (Told : Core → Core → Type 0) (q : PassData) : Type 0 where
  pub same : IsSame p q
  pub before : List Entry
  pub saw : IsPrefix p.seen before
  pub now : q.seen ≡ before ++ entry p.number made ∷ []
  pub own_is : own p.number q.seen ≡ own p.number p.seen ++ entry p.number made ∷ []
  pub others : p.sole ≡ true → OnlyWork p.seen before
  pub from : Core
  pub to : Core
  pub led : Leads p.topo before from
  pub step : Step from made to
  pub told : Told from to
  pub leads : Leads p.topo q.seen to

-- The step tells all.
abbrev pub NoMore : Core → Core → Type 0
NoMore from to = Unit {0}

-- The pass after a call that made no entry: it has seen a history that has no new entry of its own, and only workers' where all others help, and
-- leads to a desk of which the answer is true.
pub record Looked (p : PassData) (Answer : Core → Type 0) (q : PassData) : Type 0 where
  pub same : IsSame p q
  pub saw : IsPrefix p.seen q.seen
  pub own_is : own p.number q.seen ≡ own p.number p.seen
  pub others : p.sole ≡ true → OnlyWork p.seen q.seen
  pub core : Core
  pub leads : Leads p.topo q.seen core
  pub answer : Answer core

-- The first cause for which the edit is refused stands; or none stands, and memory was refused.
abbrev pub IsRefused : AnEdit → EditFault → Core → Type 0
IsRefused e fault core = ((fault ≡ edit_fault.Memory → ⊥) → refusal (length (log_of core).edits) (standing core) e ≡ Some fault)
    × (fault ≡ edit_fault.Memory → refusal (length (log_of core).edits) (standing core) e ≡ None)

-- The cause stands for which nothing is published.
abbrev pub IsUnready : PublishFault → Core → Type 0
IsUnready publish_fault.NotReady core = AllSettled core → ⊥
IsUnready publish_fault.VersionFull core = AllSettled core × (length core.reports ≡ most_versions)
IsUnready publish_fault.Memory core = AllSettled core × (length core.reports < most_versions)

-- It is the latest report, if there is one: its rows are those that the definitions find in what the edits leave that it names, and are of
-- links of the topology.
abbrev pub IsExact : Option ReportData → Core → Type 0
IsExact None core = Unit {0}
IsExact (Some report) core = (report.edit ≤ length (log_of core).edits)
    × IsReport (captures_after (inputs_after (log_of core).topo (take report.edit (log_of core).edits))) report.rows × AreLinked (log_of core).topo report.rows

abbrev pub IsLatest : Option ReportData → Core → Type 0
IsLatest found core = (found ≡ latest_of core.reports) × IsExact found core

-- So many edits were accepted.
abbrev pub HasEdits : ℕ → Core → Type 0
HasEdits count core = count ≡ length (log_of core).edits

-- Nothing is said of the desk.
abbrev pub NoWord : Core → Type 0
NoWord core = Unit {0}

-- This very job goes out, with what stands for its window, and one of a window of a monitor with the monitor that was here.
abbrev pub Takes : {M : Type 0} → Job M → Core → Core → Type 0
Takes job from to = Gives from (Some job) to

-- No window is wanted that has no live ticket, of a manager or of a monitor that is here.
abbrev pub HasNone : Core → Type 0
HasNone core = IsFirstFree SameSpan core.windows.spans.board None × IsFirstFreeWatch core None

-- Some window is to be taken, and no ticket is left; or one is left, and memory was refused.
abbrev pub IsUntaken : TakeFault → Core → Type 0
IsUntaken take_fault.TicketsSpent core = HasFree core × (core.tickets.last ≡ most_tickets)
IsUntaken take_fault.Memory core = HasFree core × (core.tickets.last < most_tickets)

-- The job's ticket isn't out for its window, or its monitor hasn't the watch with which that of its number left.
abbrev pub IsStranger : {M : Type 0} → Job M → Core → Type 0
IsStranger job core = IsOutHere core job → ⊥

-- This very job comes back unchecked: its ticket ends, and its monitor is here again, or ends where it was detached meanwhile.
abbrev pub IsAbandoned : {M : Type 0} → Job M → Core → Core → Type 0
IsAbandoned job from to = TakesBack from job to

-- This very job comes back checked. One that was live and of what stands is taken; one that wasn't is void.
abbrev pub ComesTo : {M : Type 0} → Done M → HandIn M → Core → Core → Type 0
ComesTo done answer from to = HandsBack from done answer to

abbrev pub HandsIn : {M : Type 0} → PassData → Done M → HandIn M → PassData → Type 0
HandsIn p done answer.Taken q = Made p (hand_in_of done true) (ComesTo done answer.Taken) q
HandsIn p done answer.Void q = Made p (hand_in_of done false) (ComesTo done answer.Void) q
HandsIn p done (answer.Stranger same) q = (same ≡ done) × Looked p (IsStranger (job_of done)) q

-- The ticket is no window's live one.
abbrev pub IsDead : ℕ → Core → Type 0
IsDead ticket core = IsLive core ticket → ⊥

-- It is the lowest live ticket; or none is live.
abbrev pub IsOldest : Option ℕ → Core → Type 0
IsOldest found core = IsOldestLive core found

-- The same pass, which has seen the same.
abbrev pub Stays : PassData → PassData → Type 0
Stays p q = (q.hall ≡ p.hall) × (q.topo ≡ p.topo) × (q.number ≡ p.number) × (q.seen ≡ p.seen)

-- Another pass of the hall, which has seen the same and has no entry.
abbrev pub IsAnother : PassData → PassData → Type 0
IsAnother p q = (q.hall ≡ p.hall) × (q.topo ≡ p.topo) × (q.number ≢ p.number) × (q.seen ≡ p.seen) × (own q.number q.seen ≡ [])

-- What the pass has seen.
abbrev pub Notes : PassData → PassData → Type 0
Notes p note = (note.hall ≡ p.hall) × (note.topo ≡ p.topo) × (note.seen ≡ p.seen)

-- The pass has seen the longer of two lists, both of which are beginnings of it, and no new entry of its own.
pub record Meets (p : PassData) (heard : List Entry) (q : PassData) : Type 0 where
  pub same : IsSame p q
  pub now : q.seen ≡ longer p.seen heard
  pub one : IsPrefix p.seen q.seen
  pub other : IsPrefix heard q.seen
  pub own_is : own p.number q.seen ≡ own p.number p.seen
  pub others : p.sole ≡ true → OnlyWork p.seen q.seen

-- A history leads to the desk that begins with all that the pass has seen, and has no other entry of it.
pub record Closes (p : PassData) (core : Core) : Type 0 where
  pub log : List Entry
  pub saw : IsPrefix p.seen log
  pub own_is : own p.number log ≡ own p.number p.seen
  pub others : p.sole ≡ true → OnlyWork p.seen log
  pub leads : Leads p.topo log core
