-- What a run knows beside its workers.
use Rattle.std.specs.Prelude.{◌≡◌, ◌+◌, ℕ, Bool, true, List, [], Option, Some, Result, IfOk, OnOk, OnErr}
use Rattle.std.specs.Option.{option_map_or}
use Rattle.tl_topology.specs.Topology.{Topology}
use Rattle.tl_beats.specs.declared.Row.{Row}
use Rattle.tl_beats.specs.declared.watch.Watch.{Watch}
use Rattle.tl_desk.specs.declared.call.Call.TheVariants as call
use Rattle.tl_desk.specs.declared.fault.PublishFault.{PublishFault}
use Rattle.tl_desk.specs.declared.fault.PublishFault.TheVariants as fault
use Rattle.tl_check.specs.Output.{ReportData}
use Rattle.tl_hall.specs.declared.entry.Entry.{Entry}
use Rattle.tl_hall.specs.History.{OnlyWork}
use Rattle.tl_hall.specs.Passes.{HallData, PassData, IsSame, Made, NoMore, Looked, IsUnready}
use Rattle.tl_hall.specs.Telling.{told_by}
use Rattle.tl_script.specs.Scripts.{commands_of}
use Rattle.tl_script.specs.declared.stop.Outcome.{Outcome}
use Rattle.tl_run.specs.Output.{Progress, RunData, Setting, start}
use Rattle.tl_run.specs.Stops.{IsWrittenAs, IsCutAs}

-- what a pass has seen
abbrev pub seen_in : Option PassData → List Entry
seen_in pass = option_map_or (λ (p : PassData). p.seen) pass []

-- the rows of the last report
abbrev pub rows_in : Option ReportData → List Row
rows_in last = option_map_or (λ (r : ReportData). r.rows) last []

-- what a run has come to that has seen this history, with the rows of its last report
abbrev pub progress_in : List Entry → List Row → Progress
progress_in seen rows = record { edits = (told_by seen).edits; reports = (told_by seen).versions; rows = rows }

-- A run has the pass of its hall that makes the edits and the reports; all others help.
pub record Leads (hall : HallData) (topo : Topology) (pass : Option PassData) : Type 0 where
  pub p : PassData
  pub is : pass ≡ Some p
  pub hall_is : p.hall ≡ hall.hall
  pub topo_is : p.topo ≡ topo
  pub sole : p.sole ≡ true

-- The pass has seen more, which are workers' entries alone where all others help.
pub record GoesOn (p q : PassData) : Type 0 where
  pub same : IsSame p q
  pub others : p.sole ≡ true → OnlyWork p.seen q.seen

-- A report was published, after workers' entries.
abbrev pub HasPublished : PassData → ℕ → PassData → Type 0
HasPublished p version q = (r : PassData) × GoesOn p r × Made r (call.Publish version) NoMore q

-- Why none was: memory was refused, or no report has room.
abbrev pub IsUnpublished : PassData → PublishFault → PassData → Type 0
IsUnpublished p fault.Memory q = GoesOn p q
IsUnpublished p fault.VersionFull q = (r : PassData) × GoesOn p r × Looked r (IsUnready fault.VersionFull) q
IsUnpublished p fault.NotReady q = ⊥

-- A script, what its run is of, and what its monitors watch, in the order in which its commands attach them.
pub record ScriptData : Type 0 where
  pub setting : Setting
  pub text : List ℕ
  pub boxes : List Watch

-- A script was carried out from its first command on: what was written, how often a write failed before and after, and what is told.
pub record IsCarriedOut {E : Type 0} (noted : Bool) (run : RunData) (script : List ℕ) (old new : Option (List ℕ)) (failed fails : ℕ) (told : Result Outcome E) : Type 0 where
  pub written : IfOk told (λ outcome. IsWrittenAs noted run.setting script run.boxes outcome old new)
  pub quiet : OnOk told (fails ≡ failed)
  pub cut : OnErr told ((fails ≡ failed + 1) × IsCutAs noted run.setting (commands_of script) run.boxes old new)

-- a run that begins
abbrev pub beginning : Setting → List Watch → RunData
beginning setting boxes = record { setting = setting; now = start; boxes = boxes }

-- The script was carried out so from its beginning on.
abbrev pub IsScriptRun : {E : Type 0} → Bool → ScriptData → Option (List ℕ) → Option (List ℕ) → ℕ → ℕ → Result Outcome E → Type 0
IsScriptRun noted script old new failed fails told = IsCarriedOut noted (beginning script.setting script.boxes) script.text old new failed fails told
