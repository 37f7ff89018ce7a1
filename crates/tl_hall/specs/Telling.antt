-- What a history tells of the desk that it leads to.
use Rattle.std.specs.Prelude.{◌≡◌, ◌+◌, ℕ, List, [], ◌∷◌, ◌++◌, length, Option, Some, None}
use Rattle.std.specs.Option.{option_map}
use Rattle.tl_topology.specs.Topology.{Topology}
use Rattle.tl_beats.specs.declared.watch.Watch.{Watch}
use Rattle.tl_edits.specs.declared.edit.Change.{Change}
use Rattle.tl_edits.specs.Edits.{AnEdit, plain_change, attach}
use Rattle.tl_check.specs.Output.{ReportData}
use Rattle.tl_desk.specs.Core.{Core, log_of, latest_of}
use Rattle.tl_desk.specs.declared.call.Call.{Call}
use Rattle.tl_desk.specs.declared.call.Call.TheVariants as call
use Rattle.tl_hall.specs.declared.entry.Entry.{Entry}
use Rattle.tl_hall.specs.History.{Leads}
use Rattle.tl_hall.specs.Passes.{PassData, Made, NoMore}

-- the edits in order, how many reports there are, and the version of the latest one with the number of edits that it speaks of
pub record Told : Type 0 where
  pub edits : List AnEdit
  pub versions : ℕ
  pub latest : Option (ℕ × ℕ)

abbrev pub nothing_told : Told
nothing_told = record { edits = []; versions = 0; latest = None }

-- an edit stands last; a report speaks of all edits before it; no other entry tells of either
abbrev pub told_more : Told → Call → Told
told_more told (call.Edit change number) = record told { edits = told.edits ++ plain_change change ∷ [] }
told_more told (call.Attach monitor w number) = record told { edits = told.edits ++ attach monitor w ∷ [] }
told_more told (call.Publish version) = record told { versions = told.versions + 1; latest = Some (told.versions + 1, length told.edits) }
told_more told (call.Recheck count) = told
told_more told (call.Take ticket piece from) = told
told_more told (call.HandIn ticket piece found taken) = told
told_more told (call.Abandon ticket piece) = told
told_more told (call.Recall ticket) = told

abbrev pub told_after : Told → List Entry → Told
told_after told [] = told
told_after told (e ∷ es) = told_after (told_more told e.call) es

-- what a history tells, from its first entry on
abbrev pub told_by : List Entry → Told
told_by log = told_after nothing_told log

-- the same of a desk
abbrev pub version_and_edit : ReportData → ℕ × ℕ
version_and_edit report = (report.version, report.edit)

abbrev pub told_of : Core → Told
told_of core = record { edits = (log_of core).edits; versions = length core.reports; latest = option_map version_and_edit (latest_of core.reports) }

-- A history tells what the desk has that it leads to.
abbrev pub HistoriesTell : Type 0
HistoriesTell = (topo : Topology) (log : List Entry) (core : Core) → Leads topo log core → ((log_of core).topo ≡ topo) × (told_of core ≡ told_by log)

-- The number of an edit is how many edits there are in the history that ends with it.
abbrev pub EditsAreCounted : Type 0
EditsAreCounted = (p q : PassData) (change : Change) (number : ℕ) → Made p (call.Edit change number) NoMore q → number ≡ length (told_by q.seen).edits

abbrev pub AttachesAreCounted : Type 0
AttachesAreCounted = (p q : PassData) (monitor : ℕ) (w : Watch) (number : ℕ) → Made p (call.Attach monitor w number) NoMore q → number ≡ length (told_by q.seen).edits

-- A version is how many reports were published in the history that ends with it.
abbrev pub VersionsAreCounted : Type 0
VersionsAreCounted = (p q : PassData) (version : ℕ) → Made p (call.Publish version) NoMore q → version ≡ (told_by q.seen).versions
